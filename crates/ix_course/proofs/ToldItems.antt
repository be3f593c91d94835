-- The items that the cores took are those of the lines.
use Rattle.std.proofs.Common.{◌≡◌, ◌<◌, ◌≤◌, ℕ, zero, suc, true, false, List, [], ◌∷◌, ◌++◌, length, map, refl, sym, ap, ◌∙◌, arith}
use Rattle.std.specs.Prelude.{if◌then◌else◌, nat_lt, Some, slice_get}
use Rattle.std.specs.List.{AllByRecursion}
use Rattle.std.proofs.lemmas.Bool.Decides.{nat_tests}
use Rattle.ix_base.specs.declared.id.WireNo.{WireNo}
use Rattle.ix_mbuf.specs.declared.name.Name.{Name}
use Rattle.ix_desk.specs.declared.unit.DeskItem.TheVariants as desk
use Rattle.ix_history.specs.Events.{RingItem, at_end, for_each, for_group}
use Rattle.ix_history.specs.Items.{told}
use Rattle.ix_lines.specs.declared.types.EntryLine.{EntryLine}
use Rattle.ix_lines.specs.declared.types.EntryLine.TheVariants as lines
use Rattle.ix_order.specs.Wire.{Item as Word}
use Rattle.ix_stack.specs.declared.item.Item.{Item}
use Rattle.ix_stack.specs.declared.item.Item.TheVariants as items
use Rattle.ix_stack.specs.declared.work.Work.{Work}
use Rattle.ix_stack.specs.declared.work.Work.TheVariants as works
use Rattle.ix_nic.specs.Words.{word}
use Rattle.ix_core.specs.Items.{ring_item}
use Rattle.ix_feed.specs.Told.{IsTold as IsFed}
use Rattle.ix_feed.specs.Replays.{ReplayView}
use Rattle.ix_plainstack.specs.Batches.{work_number}
use Rattle.ix_wire.specs.declared.entry.Entry.TheVariants as wire
use Rattle.ix_settled.specs.Moments.{IsRingItemTold, IsTold}
use Rattle.ix_course.proofs.Bounds.{IsBelow}

-- ## Lists
pub get-front : {X : Type 0} (xs ys : List X) (w : ℕ) (v : X) → slice_get xs w ≡ Some v → slice_get (xs ++ ys) w ≡ Some v
get-front [] ys w v e = absurd cc
get-front (x ∷ xs) ys zero v e = e
get-front (x ∷ xs) ys (suc w) v e = get-front xs ys w v e

-- an element of a list with more behind it, at a place in the front
pub get-within : {X : Type 0} (xs ys : List X) (w : ℕ) (v : X) → w < length xs → slice_get (xs ++ ys) w ≡ Some v → slice_get xs w ≡ Some v
get-within [] ys w v lt e = absurd (omega (arith, lt))
get-within (x ∷ xs) ys zero v lt e = e
get-within (x ∷ xs) ys (suc w) v lt e = get-within xs ys w v (omega (arith, lt)) e

pub get-less : {X : Type 0} (xs : List X) (w : ℕ) (v : X) → slice_get xs w ≡ Some v → w < length xs
get-less [] w v e = absurd cc
get-less (x ∷ xs) zero v e = omega arith
get-less (x ∷ xs) (suc w) v e = omega (arith, get-less xs w v e)

pub all-append : {X : Type 0} (P : X → Type 0) (xs ys : List X) → AllByRecursion P xs → AllByRecursion P ys → AllByRecursion P (xs ++ ys)
all-append P [] ys a b = b
all-append P (x ∷ xs) ys a b = (a.0, all-append P xs ys a.1 b)

-- ## The words of items
told-word : (it : Item) → told work_number (ring_item it) ≡ word it
told-word (items.Frame w g buf) = refl
told-word (items.Tag g) = refl
told-word (items.Cut g to) = refl
told-word (items.Start g k) = refl
told-word (items.Time w t) = refl
told-word items.End = refl

pub told-words : (its : List Item) → map (told work_number) (map ring_item its) ≡ map word its
told-words [] = refl
told-words (it ∷ its) = ap (λ (x : Word). x ∷ map (told work_number) (map ring_item its)) (told-word it) ∙ ap (λ (xs : List Word). word it ∷ xs) (told-words its)

-- ## The names of buffers
-- those of before for the numbers below a bound, and others from there on
pub name-on : (WireNo → Name) → ℕ → (ℕ → Name) → WireNo → Name
name-on name low new w = if nat_lt w.0 low then name w else new w.0

pub name-before : (name : WireNo → Name) (low : ℕ) (new : ℕ → Name) (w : WireNo) → w.0 < low → name-on name low new w ≡ name w
unfolding name-on
name-before name low new w lt = let t : nat_lt w.0 low ≡ true = grind (arith, nat_tests) in rw t refl

name-behind : (name : WireNo → Name) (low : ℕ) (new : ℕ → Name) (w : WireNo) → low ≤ w.0 → name-on name low new w ≡ new w.0
unfolding name-on
name-behind name low new w le = let t : nat_lt w.0 low ≡ false = grind (arith, nat_tests) in rw t refl

-- ## Items of before
stays-told : (frames : List (List ℕ)) (name name' : WireNo → Name) (done more : List EntryLine) → ((w : WireNo) → w.0 < length done → name' w ≡ name w) → (it : Work) → IsTold frames name done it → IsTold frames name' (done ++ more) it
stays-told frames name name' done more same (works.Frame t) h =
    let is = same t.w (get-less done t.w.0 _ h.line) in
    record {
      rec = h.rec;
      at = h.at;
      group = h.group;
      ring = h.ring;
      buf = h.buf;
      line = get-front done more t.w.0 _ h.line;
      bytes = h.bytes;
      named = h.named ∙ sym is;
      id = ap (λ (x : Name). x.id) is ∙ h.id;
    }
stays-told frames name name' done more same (works.Time w t) h = get-front done more w.0 _ h

item-stays : (frames : List (List ℕ)) (name name' : WireNo → Name) (done more : List EntryLine) → ((w : WireNo) → w.0 < length done → name' w ≡ name w) → (it : RingItem Work) → IsRingItemTold frames name done it
    → IsRingItemTold frames name' (done ++ more) it
item-stays frames name name' done more same (for_group g (desk.Work x)) h = stays-told frames name name' done more same x h
item-stays frames name name' done more same (for_group g desk.Tag) h = tt
item-stays frames name name' done more same (for_group g (desk.Cut to)) h = tt
item-stays frames name name' done more same (for_group g (desk.Start k)) h = tt
item-stays frames name name' done more same (for_each x) h = stays-told frames name name' done more same x h
item-stays frames name name' done more same at_end h = tt

pub items-stay : (frames : List (List ℕ)) (name name' : WireNo → Name) (done more : List EntryLine) → ((w : WireNo) → w.0 < length done → name' w ≡ name w) → (its : List (RingItem Work))
    → AllByRecursion (IsRingItemTold frames name done) its → AllByRecursion (IsRingItemTold frames name' (done ++ more)) its
items-stay frames name name' done more same [] h = tt
items-stay frames name name' done more same (it ∷ its) h = (item-stays frames name name' done more same it h.0, items-stay frames name name' done more same its h.1)

-- ## Items of an epoch
item-fed : (name : WireNo → Name) (low high r : ℕ) (z : ReplayView) (new : ℕ → Name) → ((w t : ℕ) → w < high → slice_get z.entries w ≡ Some (wire.Time t) → slice_get z.lines w ≡ Some (lines.Time t))
    → (it : Item) → IsBelow high it → IsFed r new low z it → IsRingItemTold z.frames (name-on name low new) z.lines (ring_item it)
item-fed name low high r z new times (items.Frame w g buf) below fed =
    let is = name-behind name low new w fed.behind in
    record {
      rec = fed.rec;
      at = fed.at;
      group = record { 0 = g.0 };
      ring = record { 0 = r };
      buf = buf.name.id;
      line = fed.line;
      bytes = fed.bytes;
      named = fed.named ∙ sym is;
      id = ap (λ (x : Name). x.id) (is ∙ sym fed.named);
    }
item-fed name low high r z new times (items.Time w t) below fed = times w.0 t below fed.1
item-fed name low high r z new times (items.Tag g) below fed = tt
item-fed name low high r z new times (items.Cut g to) below fed = tt
item-fed name low high r z new times (items.Start g k) below fed = tt
item-fed name low high r z new times items.End below fed = tt

pub items-fed : (name : WireNo → Name) (low high r : ℕ) (z : ReplayView) (new : ℕ → Name) → ((w t : ℕ) → w < high → slice_get z.entries w ≡ Some (wire.Time t) → slice_get z.lines w ≡ Some (lines.Time t))
    → (some : List Item) → AllByRecursion (IsBelow high) some → AllByRecursion (IsFed r new low z) some → AllByRecursion (IsRingItemTold z.frames (name-on name low new) z.lines) (map ring_item some)
items-fed name low high r z new times [] below fed = tt
items-fed name low high r z new times (it ∷ some) below fed = (item-fed name low high r z new times it below.0 fed.0, items-fed name low high r z new times some below.1 fed.1)
