-- What an event at a core's desks is for one of its groups, with the bound of a work.
use Rattle.std.proofs.Common.{◌≡◌, ℕ, suc, zero, ◌<◌, ◌≤◌, Bool, true, false, ◌&&◌, List, [], ◌∷◌, length, map, set, get_or, refl, ap, ◌∙◌, arith}
use Rattle.std.specs.Prelude.{◌==◌, if◌then◌else◌, Option, Some, None, nat_lt}
use Rattle.std.proofs.lemmas.Bool.Decides.{nat_tests}
use Rattle.std.proofs.lemmas.List.{get_or-set_same, get_or-set_other, length-set}
use Rattle.ix_desk.specs.declared.unit.DeskItem.{DeskItem}
use Rattle.ix_desk.specs.Views.{Arrival, CutPiece, Group, Piece, View}
use Rattle.ix_desk.specs.Groups.{fits, taken, landed, empty, shipped, unit_of, changed}
use Rattle.ix_desk.specs.Steps.{EachWorked, cut_leaves, current_leaves, leave, group_leaves, GroupWorked}
use Rattle.ix_desk.specs.Desks.{group_at, with_group}
use Rattle.ix_history.specs.Events.{Event, Part, for_group, for_each, at_end, took, came, worked, gone, lent, nothing, item, common, arrival, work, parcel, loan, part_of, arrival_of, given, Parcel, Happened, GroupShips}

and-right : (a b : Bool) → (a && b) ≡ true → b ≡ true
and-right true b e = e
and-right false b e = absurd (cc)

and-left : (a b : Bool) → (a && b) ≡ true → a ≡ true
and-left true b e = refl
and-left false b e = e

pub test-eq : (h g : ℕ) → (h == g) ≡ true → h ≡ g
test-eq h g e = grind (arith, nat_tests)

pub self-test : (n : ℕ) → (n == n) ≡ true
self-test n = grind (arith, nat_tests)

set-at : {X : Type 0} (xs : List X) (h g : ℕ) (z d : X) → h < length xs → get_or (set xs h z) g d ≡ (if h == g then z else get_or xs g d)
set-at xs h g z d lt =
    elim (h == g) as (λ b. (h == g) ≡ b → get_or (set xs h z) g d ≡ (if b then z else get_or xs g d)) [
      | true ↦ λ e. rw (← test-eq h g e) (get_or-set_same xs h z d lt)
      | false ↦ λ e. get_or-set_other xs h g z d (λ same. let no : (h == g) ≡ true = rw same (grind (arith, nat_tests)) in absurd (cc))
    ] refl

map-at : {X : Type 0} (f : X → X) (xs : List X) (g : ℕ) (d : X) → g < length xs → get_or (map f xs) g d ≡ f (get_or xs g d)
map-at f [] g d lt = absurd (omega arith)
map-at f (x ∷ xs) zero d lt = refl
map-at f (x ∷ xs) (suc g) d lt = map-at f xs g d (omega arith)

length-map : {X : Type 0} (f : X → X) (xs : List X) → length (map f xs) ≡ length xs
length-map f [] = refl
length-map f (x ∷ xs) = ap suc (length-map f xs)

below : (h : ℕ) → nat_lt h 512 ≡ true → h < 512
below h e = grind (arith, nat_tests)

-- where nothing is added to a budget, each is worked on within the first
pub each-at : {X : Type 0} (leaves : ℕ → X → ℕ) (Worked : ℕ → X → X → Type 0) → ((b : ℕ) (x : X) → leaves b x ≤ b) → (b g : ℕ) (xs ys : List X) (d : X)
    → EachWorked leaves Worked b xs ys → g < length xs → (n : ℕ) × (n ≤ b) × Worked n (get_or xs g d) (get_or ys g d)
each-at leaves Worked less b g [] [] d w lt = absurd (omega arith)
each-at leaves Worked less b zero (x ∷ xs) (y ∷ ys) d w lt = (b, omega arith, w.0)
each-at leaves Worked less b (suc g) (x ∷ xs) (y ∷ ys) d w lt =
    let rest = each-at leaves Worked less (leaves b x) g xs ys d w.1 (omega arith) in
    let first = less b x in let le = rest.1 in (rest.0, omega (arith, first, le), rest.2)
each-at leaves Worked less b g [] (y ∷ ys) d w lt = absurd w
each-at leaves Worked less b g (x ∷ xs) [] d w lt = absurd w

each-length : {X : Type 0} (leaves : ℕ → X → ℕ) (Worked : ℕ → X → X → Type 0) (b : ℕ) (xs ys : List X)
    → EachWorked leaves Worked b xs ys → length ys ≡ length xs
each-length leaves Worked b [] [] w = refl
each-length leaves Worked b (x ∷ xs) (y ∷ ys) w = ap suc (each-length leaves Worked (leaves b x) xs ys w.1)
each-length leaves Worked b [] (y ∷ ys) w = absurd w
each-length leaves Worked b (x ∷ xs) [] w = absurd w

pub leave-less : {X : Type 0} (leaves : ℕ → X → ℕ) → ((b : ℕ) (x : X) → leaves b x ≤ b) → (b : ℕ) (xs : List X) → leave leaves b xs ≤ b
leave-less leaves less b [] = omega arith
leave-less leaves less b (x ∷ xs) = let first = less b x in let rest = leave-less leaves less (leaves b x) xs in omega (arith, first, rest)

module _ {U I : Type 0} (counted : I → Bool) where
  pub cut-less : (b : ℕ) (c : CutPiece U I) → cut_leaves counted b c ≤ b
  cut-less b c = omega arith

  pub group-less : (b : ℕ) (x : Group U I) → group_leaves counted b x ≤ b
  group-less b x = let first = leave-less (cut_leaves counted) cut-less b x.cut in current-less (leave (cut_leaves counted) b x.cut) x first
    where
      current-less : (n : ℕ) (x : Group U I) → n ≤ b → current_leaves counted n x.current ≤ b
      current-less n x le = by_piece x.current
        where
          by_piece : (p : Option (Piece U I)) → current_leaves counted n p ≤ b
          by_piece None = le
          by_piece (Some p) = omega (arith, le)

module _ {U I O E : Type 0} (counted : I → Bool) (name : I → ℕ) (stepped : U → List (ℕ × ℕ)) (advanced : U → E → ℕ → List I → U → Type 0) (lends : U → O → U → Type 0) (env : E) (bound : ℕ) where
  pub record WorkedWithin (here : ℕ) (x y : Group U I) : Type 0 where
    pub budget : ℕ
    pub within : budget ≤ bound
    pub worked_so : GroupWorked counted name stepped advanced env here budget x y

  abbrev pub PartDid : ℕ → Group U I → Part U I O → Group U I → Type 0
  PartDid here x nothing y = y ≡ x
  PartDid here x (item it) y = (fits x it ≡ true) × (y ≡ taken x it)
  PartDid here x (common w) y = y ≡ given w x
  PartDid here x (arrival a) y = y ≡ landed x a
  PartDid here x work y = WorkedWithin here x y
  PartDid here x (parcel s) y = GroupShips x y s
  PartDid here x (loan u out v) y = (unit_of x ≡ Some u) × lends u out v × (y ≡ changed x v)

  took-part : (q : Bool) (here : ℕ) (x y : Group U I) (it : DeskItem I) → (q ≡ true → fits x it ≡ true)
      → y ≡ (if q then taken x it else x) → PartDid here x (if q then item it else nothing) y
  took-part true here x y it f e = (f refl, e)
  took-part false here x y it f e = e

  came-part : (q : Bool) (here : ℕ) (x y : Group U I) (a : Arrival U I)
      → y ≡ (if q then landed x a else x) → PartDid here x (if q then arrival a else nothing) y
  came-part true here x y a e = e
  came-part false here x y a e = e

  gone-part : (q : Bool) (here : ℕ) (x y : Group U I) (s : Parcel U I) → (q ≡ true → GroupShips x y s)
      → (q ≡ false → y ≡ x) → PartDid here x (if q then parcel s else nothing) y
  gone-part true here x y s f e = f refl
  gone-part false here x y s f e = e refl

  loan-part : (q : Bool) (here : ℕ) (x y : Group U I) (u : U) (out : O) (v : U) → lends u out v → (q ≡ true → (unit_of x ≡ Some u) × (y ≡ changed x v)) → (q ≡ false → y ≡ x)
      → PartDid here x (if q then loan u out v else nothing) y
  loan-part true here x y u out v s f e = let both = f refl in (both.0, s, both.1)
  loan-part false here x y u out v s f e = e refl

  -- with a group changed
  group-with : (x y : View U I) (h g : ℕ) (f : Group U I → Group U I) → h < length x.groups → y ≡ with_group x h (f (group_at x h))
      → group_at y g ≡ (if h == g then f (group_at x g) else group_at x g)
  group-with x y h g f lt e =
      ap (λ (v : View U I). group_at v g) e ∙ set-at x.groups h g (f (group_at x h)) empty lt
      ∙ (elim (h == g) as (λ b. (h == g) ≡ b → (if b then f (group_at x h) else group_at x g) ≡ (if b then f (group_at x g) else group_at x g)) [
        | true ↦ λ t. ap (λ n. f (group_at x n)) (test-eq h g t)
        | false ↦ λ t. refl
      ] refl)

  abbrev pub IsWithin : Event U I O → Type 0
  IsWithin e = (max : ℕ) → e ≡ worked max → max ≤ bound

  pub part-did : (g : ℕ) (x y : View U I) (e : Event U I O) → length x.groups ≡ 512 → g < 512 → IsWithin e
      → Happened counted name stepped advanced lends env x e y → PartDid x.core (group_at x g) (part_of g e) (group_at y g)
  part-did g x y (took at_end) len lt within did = ap (λ (v : View U I). group_at v g) did
  part-did g x y (took (for_each w)) len lt within did = ap (λ (v : View U I). group_at v g) did ∙ map-at (given w) x.groups g empty (rw len lt)
  part-did g x y (took (for_group h it)) len lt within did =
      let less : h < length x.groups = rw len (below h (and-left (nat_lt h 512) _ did.0)) in
      took-part (h == g) x.core (group_at x g) (group_at y g) it
      (λ q. rw (← test-eq h g q) (and-right (nat_lt h 512) _ did.0))
      (group-with x y h g (λ z. taken z it) less did.1)
  part-did g x y (came c s) len lt within did =
      let first = and-left (nat_lt s.group 512 && (s.to == x.core)) _ did.0 in
      let less : s.group < length x.groups = rw len (below s.group (and-left (nat_lt s.group 512) _ first)) in
      came-part (s.group == g) x.core (group_at x g) (group_at y g) (arrival_of s) (group-with x y s.group g (λ z. landed z (arrival_of s)) less did.1)
  part-did g x y (worked max) len lt within did =
      let at = each-at (group_leaves counted) (GroupWorked counted name stepped advanced env x.core) (group-less counted) max g x.groups y.groups empty did.groups (rw len lt) in
      let few = within max refl in let le = at.1 in
      record { budget = at.0; within = omega (arith, few, le); worked_so = at.2 }
  part-did g x y (gone s) len lt within did =
      let less : s.group < length x.groups = rw len did.within in
      let becomes = group-with x y s.group g (λ z. shipped z) less did.over in
      gone-part (s.group == g) x.core (group_at x g) (group_at y g) s
      (λ q. record {
        piece = did.piece;
        done = rw (← test-eq s.group g q) did.done;
        to_core = did.to_core;
        its_unit = did.its_unit;
        rest = did.rest;
        next = did.next;
        over = becomes ∙ (rw q refl);
      })
      (λ q. becomes ∙ (rw q refl))
  part-did g x y (lent h u out v) len lt within did =
      let becomes : h ≡ g → group_at y g ≡ changed (group_at x g) v = λ same.
      let less : h < length x.groups = rw (len, same) lt in
      group-with x y h g (λ z. changed z v) less did.2 ∙ (let test : (h == g) ≡ true = rw same (self-test g) in rw test refl) in
      loan-part (h == g) x.core (group_at x g) (group_at y g) u out v did.1
      (λ q. let same = test-eq h g q in (rw (← same) did.0, becomes same))
      (λ q. ap (λ (w : View U I). group_at w g) did.2 ∙ get_or-set_other x.groups h g (changed (group_at x h) v) empty (λ same. let no : (h == g) ≡ true = rw same (self-test h) in absurd (cc)))

  pub core-stays : (x y : View U I) (e : Event U I O) → Happened counted name stepped advanced lends env x e y → y.core ≡ x.core
  core-stays x y (took (for_group h it)) did = ap (λ (v : View U I). v.core) did.1
  core-stays x y (took (for_each w)) did = ap (λ (v : View U I). v.core) did
  core-stays x y (took at_end) did = ap (λ (v : View U I). v.core) did
  core-stays x y (came c s) did = ap (λ (v : View U I). v.core) did.1
  core-stays x y (worked max) did = did.core
  core-stays x y (lent h u out v) did = ap (λ (w : View U I). w.core) did.2
  core-stays x y (gone s) did = ap (λ (v : View U I). v.core) did.over

  size-with : (x y : View U I) (h : ℕ) (z : Group U I) → y ≡ with_group x h z → length y.groups ≡ length x.groups
  size-with x y h z e = ap (λ (v : View U I). length v.groups) e ∙ length-set x.groups h z

  pub size-stays : (x y : View U I) (e : Event U I O) → Happened counted name stepped advanced lends env x e y → length y.groups ≡ length x.groups
  size-stays x y (took (for_group h it)) did = size-with x y h _ did.1
  size-stays x y (took (for_each w)) did = ap (λ (v : View U I). length v.groups) did ∙ length-map (given w) x.groups
  size-stays x y (took at_end) did = ap (λ (v : View U I). length v.groups) did
  size-stays x y (came c s) did = size-with x y s.group _ did.1
  size-stays x y (worked max) did = each-length (group_leaves counted) (GroupWorked counted name stepped advanced env x.core) max x.groups y.groups did.groups
  size-stays x y (lent h u out v) did = size-with x y h _ did.2
  size-stays x y (gone s) did = size-with x y s.group _ did.over

  -- what landed at a core was of a tenure above 0
  pub landed-later : (x y : View U I) (c : ℕ) (s : Parcel U I) → Happened counted name stepped advanced lends env x (came c s) y → 0 < s.tenure
  landed-later x y c s did = positive s.tenure (and-left (nat_lt 0 s.tenure) _ (and-right (nat_lt s.group 512 && (s.to == x.core)) _ did.0))
    where
      positive : (m : ℕ) → nat_lt 0 m ≡ true → 0 < m
      positive m q = grind (arith, nat_tests)
