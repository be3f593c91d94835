-- The account's items are the parts of what was taken from the ring.
use Rattle.std.proofs.Common.{◌≡◌, ℕ, suc, Bool, true, false, List, [], ◌∷◌, ◌++◌, map, refl, sym, ap, ◌∙◌, arith, append_assoc, append-nil}
use Rattle.std.specs.Prelude.{◌==◌, if◌then◌else◌, Option, Some, None}
use Rattle.std.proofs.lemmas.Bool.Decides.{nat_tests}
use Rattle.ix_desk.specs.declared.unit.DeskItem.{DeskItem}
use Rattle.ix_desk.specs.declared.unit.DeskItem.TheVariants.{Work, Tag, Cut, Start}
use Rattle.ix_desk.specs.Views.{Arrival}
use Rattle.ix_order.specs.Pieces.{opened_by, if_open, adds}
use Rattle.ix_order.specs.Stages.{same, behind_by, part}
use Rattle.ix_order.specs.Ends.{opened, sends, sent}
use Rattle.ix_history.specs.Events.{RingItem, for_group, for_each, at_end, Parcel, Event, took, came, worked, gone, lent, nothing, item, arrival, parcel, loan, part_of, arrival_of}
use Rattle.ix_history.specs.Pieces.{Account, noted, item_noted, account}
use Rattle.ix_history.specs.Items.{taken_in, opens, told, adds_items, items_part}

-- what is heard of a tenure from the ring alone
pub record Heard (I : Type 0) : Type 0 where
  pub is_open : Bool
  pub tagged : Bool
  pub before : List I
  pub behind : List I
  pub to : List ℕ

pub map-snoc : {X Y : Type 0} (f : X → Y) (xs ys : List X) → map f (xs ++ ys) ≡ map f xs ++ map f ys
map-snoc f [] ys = refl
map-snoc f (x ∷ xs) ys = ap (λ zs. f x ∷ zs) (map-snoc f xs ys)

push-if : {X Y : Type 0} (f : X → Y) (q : Bool) (x y : X) → f (if q then x else y) ≡ (if q then f x else f y)
push-if f true x y = refl
push-if f false x y = refl

same-if : {X Y : Type 0} (f : X → Y) (q : Bool) (x y : X) → f x ≡ f y → f (if q then x else y) ≡ f y
same-if f true x y e = e
same-if f false x y e = refl

test-sym : (h g : ℕ) → (g == h) ≡ (h == g)
test-sym h g = grind (arith, nat_tests)

module _ {I : Type 0} where
  abbrev pub heard : ℕ → Heard I → DeskItem I → Heard I
  heard k h (Work x) = if h.is_open then record {
    is_open = h.is_open;
    tagged = h.tagged;
    before = if h.tagged then h.before else h.before ++ x ∷ [];
    behind = if h.tagged then h.behind ++ x ∷ [] else h.behind;
    to = h.to;
  } else h
  heard k h Tag = if h.is_open then record { is_open = h.is_open; tagged = true; before = h.before; behind = h.behind; to = h.to } else h
  heard k h (Cut c) = if h.is_open then record { is_open = false; tagged = h.tagged; before = h.before; behind = h.behind; to = h.to ++ c.0 ∷ [] } else h
  heard k h (Start j) = if j == k then record { is_open = true; tagged = false; before = h.before; behind = h.behind; to = h.to } else record { is_open = false; tagged = h.tagged; before = h.before; behind = h.behind; to = h.to }

  abbrev pub heard_by : ℕ → ℕ → Heard I → RingItem I → Heard I
  heard_by g k h (for_group j it) = if j == g then heard k h it else h
  heard_by g k h (for_each x) = heard k h (Work x)
  heard_by g k h at_end = h

  abbrev pub hear : ℕ → ℕ → Heard I → List (RingItem I) → Heard I
  hear g k h [] = h
  hear g k h (x ∷ xs) = hear g k (heard_by g k h x) xs

module _ {U I : Type 0} where
  abbrev pub heard_of : Account U I → Heard I
  heard_of a = record { is_open = a.is_open; tagged = a.tagged; before = a.before; behind = a.behind; to = a.to }

  item-heard : (k : ℕ) (a : Account U I) (it : DeskItem I) → heard_of (item_noted k a it) ≡ heard k (heard_of a) it
  item-heard k a (Work x) = push-if heard_of a.is_open _ a
  item-heard k a Tag = push-if heard_of a.is_open _ a
  item-heard k a (Cut c) = push-if heard_of a.is_open _ a
  item-heard k a (Start j) = push-if heard_of (j == k) _ _

module _ {U I : Type 0} (O : Type 0) where
  part-heard : (k : ℕ) (a : Account U I) (q : Bool) (it : DeskItem I) → heard_of (noted {O = O} k a (if q then item it else nothing)) ≡ (if q then heard k (heard_of a) it else heard_of a)
  part-heard k a true it = item-heard k a it
  part-heard k a false it = refl

  came-heard : (k : ℕ) (a : Account U I) (q : Bool) (x : Arrival U I) → heard_of (noted {O = O} k a (if q then arrival x else nothing)) ≡ heard_of a
  came-heard k a true x = same-if heard_of (x.tenure == k) _ a refl
  came-heard k a false x = refl

  gone-heard : (k : ℕ) (a : Account U I) (q : Bool) (s : Parcel U I) → heard_of (noted {O = O} k a (if q then parcel s else nothing)) ≡ heard_of a
  gone-heard k a true s = same-if heard_of (s.tenure == suc k) _ a refl
  gone-heard k a false s = refl

module _ {U I O : Type 0} where
  loan-heard : (k : ℕ) (a : Account U I) (q : Bool) (u : U) (out : O) (v : U) → heard_of (noted k a (if q then loan u out v else nothing)) ≡ heard_of a
  loan-heard k a true u out v = refl
  loan-heard k a false u out v = refl

  pub account-heard : (g k : ℕ) (a : Account U I) (es : List (Event U I O)) → heard_of (account k a (map (part_of g) es)) ≡ hear g k (heard_of a) (taken_in es)
  account-heard g k a [] = refl
  account-heard g k a (took (for_group h it) ∷ es) =
      account-heard g k (noted k a (part_of g (took (for_group h it)))) es ∙ ap (λ z. hear g k z (taken_in es)) (part-heard O k a (h == g) it)
  account-heard g k a (took (for_each x) ∷ es) = account-heard g k (item_noted k a (Work x)) es ∙ ap (λ z. hear g k z (taken_in es)) (item-heard k a (Work x))
  account-heard g k a (took at_end ∷ es) = account-heard g k a es
  account-heard g k a (came c s ∷ es) = account-heard g k (noted k a (part_of g (came c s))) es ∙ ap (λ z. hear g k z (taken_in es)) (came-heard O k a (s.group == g) (arrival_of s))
  account-heard g k a (worked max ∷ es) = account-heard g k a es
  account-heard g k a (gone s ∷ es) = account-heard g k (noted k a (part_of g (gone s))) es ∙ ap (λ z. hear g k z (taken_in es)) (gone-heard O k a (s.group == g) s)
  account-heard g k a (lent h u out v ∷ es) = account-heard g k (noted k a (part_of g (lent h u out v))) es ∙ ap (λ z. hear g k z (taken_in es)) (loan-heard k a (h == g) u out v)

-- what some items add
pub record Grew {I : Type 0} (k : ℕ) (h i : Heard I) (early late : List I) (tos : List ℕ) (o : Option ℕ) (f : Bool) : Type 0 where
  pub before : i.before ≡ h.before ++ early
  pub behind : i.behind ≡ h.behind ++ late
  pub to : i.to ≡ h.to ++ tos
  pub is_open : i.is_open ≡ opens k o
  pub flag : i.is_open ≡ true → i.tagged ≡ f

none-if : {X : Type 0} (q : Bool) → (if q then (let n : List X = [] in n) else []) ≡ []
none-if true = refl
none-if false = refl

open-adds : (k : ℕ) (o : Option ℕ) (w : ℕ) → opens k o ≡ true → if_open k o w ≡ w ∷ []
open-adds k None w e = absurd (cc)
open-adds k (Some j) w e = grind (arith, nat_tests)

shut-adds : (k : ℕ) (o : Option ℕ) (w : ℕ) → opens k o ≡ false → if_open k o w ≡ []
shut-adds k None w e = refl
shut-adds k (Some j) w e = grind (arith, nat_tests)

module _ {I : Type 0} where
  still : (k : ℕ) (h : Heard I) (o : Option ℕ) (f : Bool) → h.is_open ≡ opens k o → (h.is_open ≡ true → h.tagged ≡ f) → Grew k h h [] [] [] o f
  still k h o f p q = record { before = sym (append-nil h.before); behind = sym (append-nil h.behind); to = sym (append-nil h.to); is_open = p; flag = q }

  nothing-added : (k : ℕ) (h : Heard I) (o : Option ℕ) (f : Bool) → h.is_open ≡ opens k o → (h.is_open ≡ true → h.tagged ≡ f)
      → Grew k h h (if same false f then [] else []) (if same true f then [] else []) [] o f
  nothing-added k h o f p q = rw (none-if {X = I} (same false f), none-if {X = I} (same true f)) (still k h o f p q)

  add : (k : ℕ) (x : I) (p q : Bool) (bs cs : List I) (ts : List ℕ) (o : Option ℕ) (f : Bool) → p ≡ opens k o → (p ≡ true → q ≡ f)
      → let h : Heard I = record { is_open = p; tagged = q; before = bs; behind = cs; to = ts } in
      Grew k h (heard k h (Work x)) (if same false f then (if opens k o then x ∷ [] else []) else []) (if same true f then (if opens k o then x ∷ [] else []) else []) [] o f
  add k x false q bs cs ts o f e t =
      rw (sym e, none-if {X = I} (same false f), none-if {X = I} (same true f)) (still k (record { is_open = false; tagged = q; before = bs; behind = cs; to = ts }) o f e t)
  add k x true true bs cs ts o true e t =
      let one : (if opens k o then x ∷ [] else []) ≡ x ∷ [] = rw (sym e) refl in
      record { before = sym (append-nil bs); behind = ap (λ xs. cs ++ xs) (sym one); to = sym (append-nil ts); is_open = e; flag = t }
  add k x true false bs cs ts o false e t =
      let one : (if opens k o then x ∷ [] else []) ≡ x ∷ [] = rw (sym e) refl in
      record { before = ap (λ xs. bs ++ xs) (sym one); behind = sym (append-nil cs); to = sym (append-nil ts); is_open = e; flag = t }
  add k x true true bs cs ts o false e t = let no = t refl in absurd (cc)
  add k x true false bs cs ts o true e t = let no = t refl in absurd (cc)

  work-follows : (q : Bool) (k : ℕ) (x : I) (h : Heard I) (o : Option ℕ) (f : Bool) → h.is_open ≡ opens k o → (h.is_open ≡ true → h.tagged ≡ f)
      → Grew k h (if q then heard k h (Work x) else h) (if same false f then (if q then (if opens k o then x ∷ [] else []) else []) else []) (if same true f then (if q then (if opens k o then x ∷ [] else []) else []) else []) [] o f
  work-follows true k x h o f p t = add k x h.is_open h.tagged h.before h.behind h.to o f p t
  work-follows false k x h o f p t = nothing-added k h o f p t

  tag-open : (k : ℕ) (p q : Bool) (bs cs : List I) (ts : List ℕ) (o : Option ℕ) → p ≡ opens k o
      → let h : Heard I = record { is_open = p; tagged = q; before = bs; behind = cs; to = ts } in Grew k h (heard k h Tag) [] [] [] o true
  tag-open k true q bs cs ts o e = record { before = sym (append-nil bs); behind = sym (append-nil cs); to = sym (append-nil ts); is_open = e; flag = λ x. refl }
  tag-open k false q bs cs ts o e = record { before = sym (append-nil bs); behind = sym (append-nil cs); to = sym (append-nil ts); is_open = e; flag = λ x. absurd (cc) }

  tag-follows : (q : Bool) (k : ℕ) (h : Heard I) (o : Option ℕ) (f : Bool) → h.is_open ≡ opens k o → (h.is_open ≡ true → h.tagged ≡ f)
      → Grew k h (if q then heard k h Tag else h) (if same false f then (if q then [] else []) else []) (if same true f then (if q then [] else []) else []) [] o (if q then true else f)
  tag-follows true k h o f p t = rw (none-if {X = I} (same false f), none-if {X = I} (same true f)) (tag-open k h.is_open h.tagged h.before h.behind h.to o p)
  tag-follows false k h o f p t = nothing-added k h o f p t

  cut-open : (k c : ℕ) (p q : Bool) (bs cs : List I) (ts : List ℕ) (o : Option ℕ) → p ≡ opens k o
      → let h : Heard I = record { is_open = p; tagged = q; before = bs; behind = cs; to = ts } in Grew k h (heard k h (Cut (record { 0 = c }))) [] [] (if_open k o c) None false
  cut-open k c true q bs cs ts o e = let one = open-adds k o c (sym e) in
      record { before = sym (append-nil bs); behind = sym (append-nil cs); to = ap (λ xs. ts ++ xs) (sym one); is_open = refl; flag = λ x. absurd (cc) }
  cut-open k c false q bs cs ts o e = let none = shut-adds k o c (sym e) in
      record { before = sym (append-nil bs); behind = sym (append-nil cs); to = sym (append-nil ts) ∙ ap (λ xs. ts ++ xs) (sym none); is_open = refl; flag = λ x. absurd (cc) }

  cut-follows : (q : Bool) (k c : ℕ) (h : Heard I) (o : Option ℕ) (f : Bool) → h.is_open ≡ opens k o → (h.is_open ≡ true → h.tagged ≡ f)
      → Grew k h (if q then heard k h (Cut (record { 0 = c })) else h) (if same false f then (if q then [] else []) else []) (if same true f then (if q then [] else []) else []) (if q then if_open k o c else []) (if q then None else o) (if q then false else f)
  cut-follows true k c h o f p t = rw (none-if {X = I} (same false f), none-if {X = I} (same true f)) (cut-open k c h.is_open h.tagged h.before h.behind h.to o p)
  cut-follows false k c h o f p t = nothing-added k h o f p t

  start-open : (k j : ℕ) (q : Bool) (h : Heard I) → (j == k) ≡ q
      → Grew k h (if q then record { is_open = true; tagged = false; before = h.before; behind = h.behind; to = h.to } else record { is_open = false; tagged = h.tagged; before = h.before; behind = h.behind; to = h.to }) [] [] [] (Some j) false
  start-open k j true h e = record { before = sym (append-nil h.before); behind = sym (append-nil h.behind); to = sym (append-nil h.to); is_open = sym e; flag = λ x. refl }
  start-open k j false h e = record { before = sym (append-nil h.before); behind = sym (append-nil h.behind); to = sym (append-nil h.to); is_open = sym e; flag = λ x. absurd (cc) }

  start-follows : (q : Bool) (k j : ℕ) (h : Heard I) (o : Option ℕ) (f : Bool) → h.is_open ≡ opens k o → (h.is_open ≡ true → h.tagged ≡ f)
      → Grew k h (if q then heard k h (Start j) else h) (if same false f then (if q then [] else []) else []) (if same true f then (if q then [] else []) else []) [] (if q then Some j else o) (if q then false else f)
  start-follows true k j h o f p t = rw (none-if {X = I} (same false f), none-if {X = I} (same true f)) (start-open k j (j == k) h refl)
  start-follows false k j h o f p t = nothing-added k h o f p t

module _ {I : Type 0} (name : I → ℕ) where
  abbrev Follows : ℕ → ℕ → Heard I → Option ℕ → Bool → RingItem I → Type 0
  Follows g k h o f x = Grew k h (heard_by g k h x) (if same false f then adds_items g k o x else []) (if same true f then adds_items g k o x else []) (sends g k o (told name x)) (opened_by g o (told name x)) (behind_by g f (told name x))

  follows : (g k : ℕ) (h : Heard I) (o : Option ℕ) (f : Bool) (x : RingItem I) → h.is_open ≡ opens k o → (h.is_open ≡ true → h.tagged ≡ f) → Follows g k h o f x
  follows g k h o f (for_group j (Work x)) p t = work-follows (j == g) k x h o f p t
  follows g k h o f (for_group j Tag) p t = rw (test-sym j g) (tag-follows (j == g) k h o f p t)
  follows g k h o f (for_group j (Cut c)) p t = rw (test-sym j g) (cut-follows (j == g) k c.0 h o f p t)
  follows g k h o f (for_group j (Start n)) p t = rw (test-sym j g) (start-follows (j == g) k n h o f p t)
  follows g k h o f (for_each x) p t = work-follows true k x h o f p t
  follows g k h o f at_end p t = nothing-added k h o f p t

  pub record Read (g k : ℕ) (h i : Heard I) (o : Option ℕ) (f : Bool) (xs : List (RingItem I)) : Type 0 where
    pub before : i.before ≡ h.before ++ items_part name g k false o f xs
    pub behind : i.behind ≡ h.behind ++ items_part name g k true o f xs
    pub to : i.to ≡ h.to ++ sent g k o (map (told name) xs)
    pub is_open : i.is_open ≡ opens k (opened g o (map (told name) xs))

  -- what was heard of a tenure is its parts
  pub reads : (g k : ℕ) (h : Heard I) (o : Option ℕ) (f : Bool) (xs : List (RingItem I)) → h.is_open ≡ opens k o → (h.is_open ≡ true → h.tagged ≡ f)
      → Read g k h (hear g k h xs) o f xs
  reads g k h o f [] p t = record { before = sym (append-nil h.before); behind = sym (append-nil h.behind); to = sym (append-nil h.to); is_open = p }
  reads g k h o f (x ∷ xs) p t =
      let one = follows g k h o f x p t in
      let mid = heard_by g k h x in
      let rest = reads g k mid (opened_by g o (told name x)) (behind_by g f (told name x)) xs one.is_open one.flag in
      record {
        before = rest.before ∙ ap (λ ys. ys ++ items_part name g k false (opened_by g o (told name x)) (behind_by g f (told name x)) xs) one.before ∙ append_assoc h.before _ _;
        behind = rest.behind ∙ ap (λ ys. ys ++ items_part name g k true (opened_by g o (told name x)) (behind_by g f (told name x)) xs) one.behind ∙ append_assoc h.behind _ _;
        to = rest.to ∙ ap (λ ys. ys ++ sent g k (opened_by g o (told name x)) (map (told name) xs)) one.to ∙ append_assoc h.to _ _;
        is_open = rest.is_open;
      }

  map-if : (q : Bool) (xs : List I) → map name (if q then xs else []) ≡ (if q then map name xs else [])
  map-if true xs = refl
  map-if false xs = refl

  if-names : (k : ℕ) (o : Option ℕ) (x : I) → map name (if opens k o then x ∷ [] else []) ≡ if_open k o (name x)
  if-names k None x = refl
  if-names k (Some j) x = map-if (j == k) (x ∷ []) ∙ ap (λ q. if q then name x ∷ [] else []) (test-sym k j)

  adds-names : (g k : ℕ) (o : Option ℕ) (x : RingItem I) → map name (adds_items g k o x) ≡ adds g k o (told name x)
  adds-names g k o (for_group h (Work x)) =
      map-if (h == g) (if opens k o then x ∷ [] else []) ∙ ap (λ ws. if h == g then ws else []) (if-names k o x) ∙ ap (λ q. if q then if_open k o (name x) else []) (test-sym g h)
  adds-names g k o (for_group h Tag) = map-if (h == g) [] ∙ none-if (h == g)
  adds-names g k o (for_group h (Cut c)) = map-if (h == g) [] ∙ none-if (h == g)
  adds-names g k o (for_group h (Start j)) = map-if (h == g) [] ∙ none-if (h == g)
  adds-names g k o (for_each x) = if-names k o x
  adds-names g k o at_end = refl

  -- the names of a part are those that the ring's law speaks of
  pub names-part : (g k : ℕ) (b : Bool) (o : Option ℕ) (f : Bool) (xs : List (RingItem I)) → map name (items_part name g k b o f xs) ≡ part g k b o f (map (told name) xs)
  names-part g k b o f [] = refl
  names-part g k b o f (x ∷ xs) =
      map-snoc name (if same b f then adds_items g k o x else []) _
      ∙ ap (λ ws. ws ++ map name (items_part name g k b (opened_by g o (told name x)) (behind_by g f (told name x)) xs)) (map-if (same b f) (adds_items g k o x) ∙ ap (λ ws. if same b f then ws else []) (adds-names g k o x))
      ∙ ap (λ ws. (if same b f then adds g k o (told name x) else []) ++ ws) (names-part g k b (opened_by g o (told name x)) (behind_by g f (told name x)) xs)
