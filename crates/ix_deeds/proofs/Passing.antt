-- What is so of the units and items of a tenure stays so along a history, where it is so of what arrives.
use Rattle.std.proofs.Common.{◌≡◌, ℕ, suc, ◌<◌, Bool, true, false, List, [], ◌∷◌, length, refl, sym, ◌∙◌, subst, arith, inl, inr}
use Rattle.std.specs.Prelude.{◌==◌, if◌then◌else◌, Option, Some, None, is_some}
use Rattle.std.specs.List.{AllByRecursion}
use Rattle.std.proofs.lemmas.Bool.Decides.{nat_tests}
use Rattle.ix_desk.specs.declared.unit.DeskItem.{DeskItem}
use Rattle.ix_desk.specs.declared.unit.DeskItem.TheVariants.{Work, Tag, Cut, Start}
use Rattle.ix_desk.specs.Views.{Arrival, Group, Piece, View}
use Rattle.ix_desk.specs.Pieces.{awaits, begun, with_arrival}
use Rattle.ix_desk.specs.Groups.{changed, current_seated, current_with, cut_awaits, cut_unit, done_of, item_put, landed, tag_put, taken}
use Rattle.ix_desk.specs.Steps.{CurrentWorked}
use Rattle.ix_desk.specs.Desks.{group_at}
use Rattle.ix_order.specs.Pieces.{opened_by}
use Rattle.ix_order.specs.Stages.{behind_by}
use Rattle.ix_history.specs.Runs.{Runs}
use Rattle.ix_history.specs.Events.{Event, Part, for_group, for_each, at_end, took, came, worked, gone, lent, nothing, item, common, arrival, work, parcel, loan, part_of, arrival_of, given, Parcel, Happened}
use Rattle.ix_history.specs.Items.{taken_in, told, told_item}
use Rattle.ix_history.specs.Join.{In}
use Rattle.ix_deeds.specs.Acts.{DidStep, IsRight}
use Rattle.ix_deeds.specs.Right.{AreRight, IsDeskItemRight, IsOpen, IsRightIn, IsRingItemRight, open_behind, tagged_behind}
use Rattle.ix_deeds.specs.Going.{AreBounded}
use Rattle.ix_deeds.proofs.Parts.{PartDid, IsWithin, part-did, size-stays, test-eq}
use Rattle.ix_deeds.proofs.Holding.{ArrivalHolds, Holds, UnitHolds, done-holds, given-holds, landed-holds, lent-holds, ships-holds, taken-holds, work-holds}

eq-swap : (g h : ℕ) → (g == h) ≡ (h == g)
eq-swap g h = by_test (h == g) refl
  where
    by_test : (q : Bool) → (h == g) ≡ q → (g == h) ≡ q
    by_test true e = let same = test-eq h g e in grind (arith, nat_tests)
    by_test false e = grind (arith, nat_tests)

-- ## The open piece
module _ {U I O : Type 0} where
  abbrev opened_part : Option ℕ → Part U I O → Option ℕ
  opened_part o (item (Work x)) = o
  opened_part o (item Tag) = o
  opened_part o (item (Cut c)) = None
  opened_part o (item (Start k)) = Some k
  opened_part o nothing = o
  opened_part o (common x) = o
  opened_part o (arrival a) = o
  opened_part o work = o
  opened_part o (parcel s) = o
  opened_part o (loan u out v) = o

  abbrev tagged_part : Bool → Part U I O → Bool
  tagged_part f (item (Work x)) = f
  tagged_part f (item Tag) = true
  tagged_part f (item (Cut c)) = false
  tagged_part f (item (Start k)) = false
  tagged_part f nothing = f
  tagged_part f (common x) = f
  tagged_part f (arrival a) = f
  tagged_part f work = f
  tagged_part f (parcel s) = f
  tagged_part f (loan u out v) = f

module _ {U I : Type 0} where
  open-given : (o : Option ℕ) (f : Bool) (x : I) (p : Option (Piece U I)) → IsOpen o f p → IsOpen o f (item_put x p)
  open-given None f x None op = tt
  open-given None f x (Some p) op = absurd op
  open-given (Some k) f x None op = absurd op
  open-given (Some k) f x (Some p) op = op

  open-tagged : (o : Option ℕ) (f : Bool) (p : Option (Piece U I)) → IsOpen o f p → IsOpen o true (tag_put p)
  open-tagged None f None op = tt
  open-tagged None f (Some p) op = absurd op
  open-tagged (Some k) f None op = absurd op
  open-tagged (Some k) f (Some p) op = (op.0, refl)

  open-seated : (o : Option ℕ) (f : Bool) (a : Arrival U I) (p : Option (Piece U I)) → IsOpen o f p → IsOpen o f (current_seated a p)
  open-seated None f a None op = tt
  open-seated None f a (Some p) op = absurd op
  open-seated (Some k) f a None op = absurd op
  open-seated (Some k) f a (Some p) op = by_test (awaits a.tenure p)
    where
      by_test : (q : Bool) → IsOpen (Some k) f (if q then Some (with_arrival a p) else Some p)
      by_test true = op
      by_test false = op

  open-landed : (o : Option ℕ) (f : Bool) (x : Group U I) (a : Arrival U I) → IsOpen o f x.current → IsOpen o f (landed x a).current
  open-landed o f x a op = by_test (cut_awaits a.tenure x.cut)
    where
      by_test : (q : Bool) → IsOpen o f (if q then x.current else current_seated a x.current)
      by_test true = op
      by_test false = open-seated o f a x.current op

  open-with : (o : Option ℕ) (f : Bool) (v : U) (p : Option (Piece U I)) → IsOpen o f p → IsOpen o f (current_with p v)
  open-with None f v None op = tt
  open-with None f v (Some p) op = absurd op
  open-with (Some k) f v None op = absurd op
  open-with (Some k) f v (Some p) op = op

  open-changed : (o : Option ℕ) (f : Bool) (x : Group U I) (v : U) → IsOpen o f x.current → IsOpen o f (changed x v).current
  unfolding changed
  open-changed o f x v op = by_test (is_some (cut_unit x.cut))
    where
      by_test : (q : Bool) → IsOpen o f (if q then x.current else current_with x.current v)
      by_test true = op
      by_test false = open-with o f v x.current op

  open-common : (o : Option ℕ) (f : Bool) (x : Group U I) (w : I) → IsOpen o f x.current → IsOpen o f (given w x).current
  open-common o f x w op = by_test (is_some x.current)
    where
      by_test : (q : Bool) → IsOpen o f (if q then taken x (Work w) else x).current
      by_test true = open-given o f w x.current op
      by_test false = op

module _ {U I O E : Type 0} (counted : I → Bool) (name : I → ℕ) (stepped : U → List (ℕ × ℕ)) (advanced : U → E → ℕ → List I → U → Type 0) (lends : U → O → U → Type 0) (env : E) (bound : ℕ) where
  open-worked : (here b : ℕ) (o : Option ℕ) (f : Bool) (p q : Option (Piece U I)) → CurrentWorked counted name stepped advanced env here b p q → IsOpen o f p → IsOpen o f q
  open-worked here b None f None None did op = tt
  open-worked here b (Some k) f None q did op = absurd op
  open-worked here b None f (Some p) q did op = absurd op
  open-worked here b None f None (Some q) did op = absurd did
  open-worked here b (Some k) f (Some p) (Some q) did op = (did.tenure ∙ op.0, did.tagged ∙ op.1)
  open-worked here b (Some k) f (Some p) None did op = absurd did

  part-open : (here : ℕ) (o : Option ℕ) (f : Bool) (x : Group U I) (part : Part U I O) (y : Group U I) → PartDid counted name stepped advanced lends env bound here x part y
      → IsOpen o f x.current → IsOpen (opened_part o part) (tagged_part f part) y.current
  part-open here o f x nothing y did op = subst (λ (z : Group U I). IsOpen o f z.current) (sym did) op
  part-open here o f x (item (Work w)) y did op = subst (λ (z : Group U I). IsOpen o f z.current) (sym did.1) (open-given o f w x.current op)
  part-open here o f x (item Tag) y did op = subst (λ (z : Group U I). IsOpen o true z.current) (sym did.1) (open-tagged o f x.current op)
  part-open here o f x (item (Cut c)) y did op = subst (λ (z : Group U I). IsOpen None false z.current) (sym did.1) tt
  part-open here o f x (item (Start k)) y did op = subst (λ (z : Group U I). IsOpen (Some k) false z.current) (sym did.1) (begun-open k _)
    where
      begun-open : (k : ℕ) (a : Option (Arrival U I)) → IsOpen (Some k) false (Some (begun k a))
      begun-open k None = (refl, refl)
      begun-open k (Some a) = (refl, refl)
  part-open here o f x (common w) y did op = subst (λ (z : Group U I). IsOpen o f z.current) (sym did) (open-common o f x w op)
  part-open here o f x (arrival a) y did op = subst (λ (z : Group U I). IsOpen o f z.current) (sym did) (open-landed o f x a op)
  part-open here o f x work y did op = open-worked here _ o f x.current y.current did.worked_so.current op
  part-open here o f x (parcel s) y did op = subst (λ (z : Group U I). IsOpen o f z.current) (sym did.over) op
  part-open here o f x (loan u out v) y did op = subst (λ (z : Group U I). IsOpen o f z.current) (sym did.2) (open-changed o f x v op)

  -- by the items of the ring
  told-opened : (q : Bool) (g h : ℕ) (o : Option ℕ) (it : DeskItem I) → (g == h) ≡ q → opened_part {U = U} {O = O} o (if q then item it else nothing) ≡ opened_by g o (told_item name h it)
  told-opened true g h o (Work x) e = refl
  told-opened true g h o Tag e = refl
  told-opened true g h o (Cut c) e = rw e refl
  told-opened true g h o (Start k) e = rw e refl
  told-opened false g h o (Work x) e = refl
  told-opened false g h o Tag e = refl
  told-opened false g h o (Cut c) e = rw e refl
  told-opened false g h o (Start k) e = rw e refl

  told-tagged : (q : Bool) (g h : ℕ) (f : Bool) (it : DeskItem I) → (g == h) ≡ q → tagged_part {U = U} {O = O} f (if q then item it else nothing) ≡ behind_by g f (told_item name h it)
  told-tagged true g h f (Work x) e = refl
  told-tagged true g h f Tag e = rw e refl
  told-tagged true g h f (Cut c) e = rw e refl
  told-tagged true g h f (Start k) e = rw e refl
  told-tagged false g h f (Work x) e = refl
  told-tagged false g h f Tag e = rw e refl
  told-tagged false g h f (Cut c) e = rw e refl
  told-tagged false g h f (Start k) e = rw e refl

  abbrev opened_event : ℕ → Option ℕ → Event U I O → Option ℕ
  opened_event g o (took i) = opened_by g o (told name i)
  opened_event g o (came c s) = o
  opened_event g o (worked max) = o
  opened_event g o (gone s) = o
  opened_event g o (lent h u out v) = o

  abbrev tagged_event : ℕ → Bool → Event U I O → Bool
  tagged_event g f (took i) = behind_by g f (told name i)
  tagged_event g f (came c s) = f
  tagged_event g f (worked max) = f
  tagged_event g f (gone s) = f
  tagged_event g f (lent h u out v) = f

  still-opened : (q : Bool) (o : Option ℕ) (part : Part U I O) → opened_part o part ≡ o → opened_part {U = U} {I = I} {O = O} o (if q then part else nothing) ≡ o
  still-opened true o part e = e
  still-opened false o part e = refl

  still-tagged : (q : Bool) (f : Bool) (part : Part U I O) → tagged_part f part ≡ f → tagged_part {U = U} {I = I} {O = O} f (if q then part else nothing) ≡ f
  still-tagged true f part e = e
  still-tagged false f part e = refl

  event-opened : (g : ℕ) (o : Option ℕ) (e : Event U I O) → opened_part o (part_of g e) ≡ opened_event g o e
  event-opened g o (took (for_group h it)) = told-opened (h == g) g h o it (eq-swap g h)
  event-opened g o (took (for_each w)) = refl
  event-opened g o (took at_end) = refl
  event-opened g o (came c s) = still-opened (s.group == g) o (arrival (arrival_of s)) refl
  event-opened g o (worked max) = refl
  event-opened g o (gone s) = still-opened (s.group == g) o (parcel s) refl
  event-opened g o (lent h u out v) = still-opened (h == g) o (loan u out v) refl

  event-tagged : (g : ℕ) (f : Bool) (e : Event U I O) → tagged_part f (part_of g e) ≡ tagged_event g f e
  event-tagged g f (took (for_group h it)) = told-tagged (h == g) g h f it (eq-swap g h)
  event-tagged g f (took (for_each w)) = refl
  event-tagged g f (took at_end) = refl
  event-tagged g f (came c s) = still-tagged (s.group == g) f (arrival (arrival_of s)) refl
  event-tagged g f (worked max) = refl
  event-tagged g f (gone s) = still-tagged (s.group == g) f (parcel s) refl
  event-tagged g f (lent h u out v) = still-tagged (h == g) f (loan u out v) refl

  pub event-open : (g : ℕ) (x y : View U I) (e : Event U I O) (o : Option ℕ) (f : Bool) → length x.groups ≡ 512 → g < 512 → IsWithin counted name stepped advanced lends env bound e
      → Happened counted name stepped advanced lends env x e y → IsOpen o f (group_at x g).current → IsOpen (opened_event g o e) (tagged_event g f e) (group_at y g).current
  event-open g x y e o f len lt within did op =
      subst (λ b. IsOpen (opened_event g o e) b (group_at y g).current) (event-tagged g f e)
      (subst (λ p. IsOpen p (tagged_part f (part_of g e)) (group_at y g).current) (event-opened g o e)
      (part-open x.core o f (group_at x g) (part_of g e) (group_at y g) (part-did counted name stepped advanced lends env bound g x y e len lt within did) op))

  behind-open : (g : ℕ) (o : Option ℕ) (f : Bool) (e : Event U I O) (es : List (Event U I O)) (p : Option (Piece U I))
      → IsOpen (open_behind name g (opened_event g o e) (taken_in es)) (tagged_behind name g (tagged_event g f e) (taken_in es)) p
      → IsOpen (open_behind name g o (taken_in (e ∷ es))) (tagged_behind name g f (taken_in (e ∷ es))) p
  behind-open g o f (took i) es p op = op
  behind-open g o f (came c s) es p op = op
  behind-open g o f (worked max) es p op = op
  behind-open g o f (gone s) es p op = op
  behind-open g o f (lent h u out v) es p op = op

  pub runs-open : (g : ℕ) (x y : View U I) (es : List (Event U I O)) (o : Option ℕ) (f : Bool) → length x.groups ≡ 512 → g < 512 → AreBounded bound es
      → Runs (Happened counted name stepped advanced lends env) x es y → IsOpen o f (group_at x g).current
      → IsOpen (open_behind name g o (taken_in es)) (tagged_behind name g f (taken_in es)) (group_at y g).current
  runs-open g x y [] o f len lt bounds runs op = subst (λ (v : View U I). IsOpen o f (group_at v g).current) (sym runs) op
  runs-open g x y (e ∷ es) o f len lt bounds runs op =
      behind-open g o f e es (group_at y g).current
      (runs-open g runs.0 y es (opened_event g o e) (tagged_event g f e) (size-stays counted name stepped advanced lends env bound x runs.0 e runs.1 ∙ len) lt (λ max i. bounds max (inr i)) runs.2
      (event-open g x runs.0 e o f len lt (λ max same. bounds max (inl (sym same))) runs.1 op))

  -- ## What holds of a tenure
  module _ (tenure_of : ℕ → ℕ) (named : ℕ → I) (IsUnit : U → Type 0)
      (stepping : (x : U) (k c : ℕ) (items : List I) (y : U) → DidStep counted name stepped advanced lends env tenure_of named bound x k c items y → IsUnit x → IsUnit y)
      (lending : (x : U) (out : O) (y : U) → lends x out y → IsUnit x → IsUnit y) (g : ℕ) (group : g < 512) where
    abbrev pub Hold : ℕ → Group U I → Type 0
    Hold k x = Holds counted name stepped advanced lends env bound tenure_of named IsUnit stepping lending k x

    abbrev pub Arrived : Arrival U I → Type 0
    Arrived a = ArrivalHolds counted name stepped advanced lends env bound tenure_of named IsUnit stepping lending a

    abbrev PartRight : Option ℕ → Bool → Part U I O → Type 0
    PartRight o f (item it) = IsDeskItemRight name tenure_of named o f it
    PartRight o f (common w) = IsRightIn name tenure_of named o f w
    PartRight o f nothing = Unit {0}
    PartRight o f (arrival a) = Unit {0}
    PartRight o f work = Unit {0}
    PartRight o f (parcel s) = Unit {0}
    PartRight o f (loan u out v) = Unit {0}

    abbrev PartCame : ℕ → Part U I O → Type 0
    PartCame k (arrival a) = a.tenure ≡ k → Arrived a
    PartCame k (item it) = Unit {0}
    PartCame k (common w) = Unit {0}
    PartCame k nothing = Unit {0}
    PartCame k work = Unit {0}
    PartCame k (parcel s) = Unit {0}
    PartCame k (loan u out v) = Unit {0}

    part-holds : (k here : ℕ) (o : Option ℕ) (f : Bool) (x : Group U I) (part : Part U I O) (y : Group U I) → PartDid counted name stepped advanced lends env bound here x part y
        → IsOpen o f x.current → PartRight o f part → PartCame k part → Hold k x → Hold k y
    part-holds k here o f x nothing y did op right was h = subst (Hold k) (sym did) h
    part-holds k here o f x (item it) y did op right was h = subst (Hold k) (sym did.1) (taken-holds counted name stepped advanced lends env bound tenure_of named IsUnit stepping lending k o f x it op right h)
    part-holds k here o f x (common w) y did op right was h = subst (Hold k) (sym did) (given-holds counted name stepped advanced lends env bound tenure_of named IsUnit stepping lending k o f x w op right h)
    part-holds k here o f x (arrival a) y did op right was h = subst (Hold k) (sym did) (landed-holds counted name stepped advanced lends env bound tenure_of named IsUnit stepping lending k x a was h)
    part-holds k here o f x work y did op right was h = work-holds counted name stepped advanced lends env bound tenure_of named IsUnit stepping lending k here did.budget x y did.within did.worked_so h
    part-holds k here o f x (parcel s) y did op right was h = ships-holds counted name stepped advanced lends env bound tenure_of named IsUnit stepping lending k x y s did h
    part-holds k here o f x (loan u out v) y did op right was h = subst (Hold k) (sym did.2) (lent-holds counted name stepped advanced lends env bound tenure_of named IsUnit stepping lending k x u out v did.0 did.1 h)

    abbrev EventRight : Option ℕ → Bool → Event U I O → Type 0
    EventRight o f (took i) = IsRingItemRight name tenure_of named g o f i
    EventRight o f (came c s) = Unit {0}
    EventRight o f (worked max) = Unit {0}
    EventRight o f (gone s) = Unit {0}
    EventRight o f (lent h u out v) = Unit {0}

    abbrev EventCame : ℕ → Event U I O → Type 0
    EventCame k (came c s) = s.group ≡ g → s.tenure ≡ k → Arrived (arrival_of s)
    EventCame k (took i) = Unit {0}
    EventCame k (worked max) = Unit {0}
    EventCame k (gone s) = Unit {0}
    EventCame k (lent h u out v) = Unit {0}

    right-part : (q : Bool) (h : ℕ) (o : Option ℕ) (f : Bool) (it : DeskItem I) → (h == g) ≡ q → (h ≡ g → IsDeskItemRight name tenure_of named o f it) → PartRight o f (if q then item it else nothing)
    right-part true h o f it e right = right (test-eq h g e)
    right-part false h o f it e right = tt

    came-part : (q : Bool) (k : ℕ) (s : Parcel U I) → (s.group == g) ≡ q → (s.group ≡ g → s.tenure ≡ k → Arrived (arrival_of s)) → PartCame k (if q then arrival (arrival_of s) else nothing)
    came-part true k s e was = was (test-eq s.group g e)
    came-part false k s e was = tt

    no-came : (q : Bool) (k : ℕ) (part : Part U I O) → PartCame k part → PartCame k (if q then part else nothing)
    no-came true k part p = p
    no-came false k part p = tt

    no-right : (q : Bool) (o : Option ℕ) (f : Bool) (part : Part U I O) → PartRight o f part → PartRight o f (if q then part else nothing)
    no-right true o f part p = p
    no-right false o f part p = tt

    event-right : (o : Option ℕ) (f : Bool) (e : Event U I O) → EventRight o f e → PartRight o f (part_of g e)
    event-right o f (took (for_group h it)) right = right-part (h == g) h o f it refl right
    event-right o f (took (for_each w)) right = right
    event-right o f (took at_end) right = tt
    event-right o f (came c s) right = no-right (s.group == g) o f (arrival (arrival_of s)) tt
    event-right o f (worked max) right = tt
    event-right o f (gone s) right = no-right (s.group == g) o f (parcel s) tt
    event-right o f (lent h u out v) right = no-right (h == g) o f (loan u out v) tt

    event-came : (k : ℕ) (e : Event U I O) → EventCame k e → PartCame k (part_of g e)
    event-came k (took (for_group h it)) was = no-came (h == g) k (item it) tt
    event-came k (took (for_each w)) was = tt
    event-came k (took at_end) was = tt
    event-came k (came c s) was = came-part (s.group == g) k s refl was
    event-came k (worked max) was = tt
    event-came k (gone s) was = no-came (s.group == g) k (parcel s) tt
    event-came k (lent h u out v) was = no-came (h == g) k (loan u out v) tt

    event-holds : (k : ℕ) (x y : View U I) (e : Event U I O) (o : Option ℕ) (f : Bool) → length x.groups ≡ 512 → IsWithin counted name stepped advanced lends env bound e
        → Happened counted name stepped advanced lends env x e y → IsOpen o f (group_at x g).current → EventRight o f e → EventCame k e → Hold k (group_at x g) → Hold k (group_at y g)
    event-holds k x y e o f len within did op right was h =
        part-holds k x.core o f (group_at x g) (part_of g e) (group_at y g) (part-did counted name stepped advanced lends env bound g x y e len group within did) op (event-right o f e right) (event-came k e was) h

    -- what leaves for the next tenure
    gone-holds : (k : ℕ) (x y : View U I) (s : Parcel U I) → Happened counted name stepped advanced lends env x (gone s) y → s.group ≡ g → s.tenure ≡ suc k → Hold k (group_at x g) → Arrived (arrival_of s)
    gone-holds k x y s did same tenure h =
        let is = subst (λ m. done_of (group_at x m).cut ≡ Some did.piece) same did.done in
        let at = done-holds counted name stepped advanced lends env bound tenure_of named IsUnit stepping lending k (group_at x g).cut did.piece is h.cut in
        let next = did.next in
        let was = at (omega (arith, tenure, next)) in
        let later : s.tenure ≡ suc did.piece.piece.tenure = omega (arith, next) in
        record {
          unit = subst (UnitHolds counted name stepped advanced lends env bound tenure_of named IsUnit stepping lending) did.its_unit was.unit;
          queue = subst (λ m. AllByRecursion (IsRight name tenure_of named m) s.queue) (sym later) (subst (AllByRecursion (IsRight name tenure_of named (suc did.piece.piece.tenure))) did.rest was.waits.behind);
        }

    gone-at : (k : ℕ) (x y : View U I) (e : Event U I O) (s : Parcel U I) → gone s ≡ e → Happened counted name stepped advanced lends env x e y → s.group ≡ g → s.tenure ≡ suc k → Hold k (group_at x g) → Arrived (arrival_of s)
    gone-at k x y e s same did = gone-holds k x y s (subst (λ q. Happened counted name stepped advanced lends env x q y) (sym same) did)

    right-split : (o : Option ℕ) (f : Bool) (e : Event U I O) (es : List (Event U I O)) → AreRight name tenure_of named g o f (taken_in (e ∷ es))
        → EventRight o f e × AreRight name tenure_of named g (opened_event g o e) (tagged_event g f e) (taken_in es)
    right-split o f (took i) es right = (right.0, right.1)
    right-split o f (came c s) es right = (tt, right)
    right-split o f (worked max) es right = (tt, right)
    right-split o f (gone s) es right = (tt, right)
    right-split o f (lent h u out v) es right = (tt, right)

    came-here : (k : ℕ) (e : Event U I O) (es : List (Event U I O)) → ((c : ℕ) (s : Parcel U I) → In (came c s) (e ∷ es) → s.group ≡ g → s.tenure ≡ k → Arrived (arrival_of s)) → EventCame k e
    came-here k (took i) es was = tt
    came-here k (came c s) es was = was c s (inl refl)
    came-here k (worked max) es was = tt
    came-here k (gone s) es was = tt
    came-here k (lent h u out v) es was = tt

    -- along a history
    pub runs-hold : (k : ℕ) (x y : View U I) (es : List (Event U I O)) (o : Option ℕ) (f : Bool) → length x.groups ≡ 512 → AreBounded bound es
        → Runs (Happened counted name stepped advanced lends env) x es y → IsOpen o f (group_at x g).current → AreRight name tenure_of named g o f (taken_in es)
        → ((c : ℕ) (s : Parcel U I) → In (came c s) es → s.group ≡ g → s.tenure ≡ k → Arrived (arrival_of s)) → Hold k (group_at x g)
        → Hold k (group_at y g) × ((s : Parcel U I) → In (gone s) es → s.group ≡ g → s.tenure ≡ suc k → Arrived (arrival_of s))
    runs-hold k x y [] o f len bounds runs op right was h = (subst (λ (v : View U I). Hold k (group_at v g)) (sym runs) h, (λ s i. absurd i))
    runs-hold k x y (e ∷ es) o f len bounds runs op right was h =
        let z = runs.0 in
        let within = λ (max : ℕ) (same : e ≡ worked max). bounds max (inl (sym same)) in
        let split = right-split o f e es right in
        let next = event-holds k x z e o f len within runs.1 op split.0 (came-here k e es was) h in
        let rest = runs-hold k z y es (opened_event g o e) (tagged_event g f e) (size-stays counted name stepped advanced lends env bound x z e runs.1 ∙ len) (λ max i. bounds max (inr i)) runs.2
        (event-open g x z e o f len group within runs.1 op) split.1 (λ c s i. was c s (inr i)) next in
        (rest.0, λ s i. by_place s i rest.1)
      where
        by_place : (s : Parcel U I) → In (gone s) (e ∷ es) → ((t : Parcel U I) → In (gone t) es → t.group ≡ g → t.tenure ≡ suc k → Arrived (arrival_of t)) → s.group ≡ g → s.tenure ≡ suc k → Arrived (arrival_of s)
        by_place s (inl same) rest grp tenure = gone-at k x runs.0 e s same runs.1 grp tenure h
        by_place s (inr i) rest grp tenure = rest s i grp tenure
