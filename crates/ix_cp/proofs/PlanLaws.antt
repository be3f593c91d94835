-- The definitions of plans, one step at a time.
use Rattle.std.proofs.Common.{◌≡◌, ◌≢◌, ℕ, zero, suc, ◌+◌, ◌-◌, ◌<◌, ◌≤◌, List, [], ◌∷◌, ◌++◌, length, get_or, take, drop, refl, ap, sym, subst, ◌⊎◌, inl, inr, ◌∙◌, arith, Bool, true, false, Option, Some, None, append-nil, add-one, drop-cons}
use Rattle.std.specs.Prelude.{if◌then◌else◌, ◌==◌, slice_index_or, slice_set, option_map, All, IfOk, Result, Ok, Err, Vec}
use Rattle.std.specs.declared.alloc.Global.{Global}
use Rattle.ix_base.specs.declared.memory.NoMemory.{NoMemory}
use Rattle.std.proofs.lemmas.List.Elements.{All-cons, All-nil}
use Rattle.std.proofs.lemmas.List.Quantifiers.{position-Some}
use Rattle.std.proofs.Math.ListN.{length-set}
use Rattle.std.proofs.lemmas.Bool.Decides.{nat_tests}
use Rattle.ix_base.specs.declared.id.CoreId.{CoreId}
use Rattle.ix_cp.specs.declared.plan.PlanMove.{PlanMove}
use Rattle.ix_cp.specs.Plan.{busiest, count_on, IsMoveTo, add_plan, due, due_between, emptier, evening_moves, fuller, go_on, idlest, leaving_moves, lowest_on, move_of, moved, one_on, revoke_plan}

if_true : {A : Type 0} (b : Bool) (x y : A) → b ≡ true → (if b then x else y) ≡ x
if_true true x y h = refl
if_true false x y h = absurd (cc)

if_false : {A : Type 0} (b : Bool) (x y : A) → b ≡ false → (if b then x else y) ≡ y
if_false true x y h = absurd (cc)
if_false false x y h = refl

pub busiest-none : (at : List CoreId) (live : List Bool) → busiest at live 0 ≡ None
unfolding busiest
busiest-none at live = refl

pub busiest-live : (at : List CoreId) (live : List Bool) (n : ℕ) → slice_index_or live n false ≡ true
    → busiest at live (n + 1) ≡ fuller at (busiest at live n) n
unfolding busiest
busiest-live at live n is =
    ap (busiest at live) (let e : n + 1 ≡ suc n = omega arith in e) ∙ if_true (slice_index_or live n false) _ _ is

pub busiest-not_live : (at : List CoreId) (live : List Bool) (n : ℕ) → slice_index_or live n false ≡ false
    → busiest at live (n + 1) ≡ busiest at live n
unfolding busiest
busiest-not_live at live n is =
    ap (busiest at live) (let e : n + 1 ≡ suc n = omega arith in e) ∙ if_false (slice_index_or live n false) _ _ is

pub ruleset busiest_steps = (busiest-none, busiest-live, busiest-not_live)

pub idlest-none : (at : List CoreId) (live : List Bool) → idlest at live 0 ≡ None
unfolding idlest
idlest-none at live = refl

pub idlest-live : (at : List CoreId) (live : List Bool) (n : ℕ) → slice_index_or live n false ≡ true
    → idlest at live (n + 1) ≡ emptier at (idlest at live n) n
unfolding idlest
idlest-live at live n is =
    ap (idlest at live) (let e : n + 1 ≡ suc n = omega arith in e) ∙ if_true (slice_index_or live n false) _ _ is

pub idlest-not_live : (at : List CoreId) (live : List Bool) (n : ℕ) → slice_index_or live n false ≡ false
    → idlest at live (n + 1) ≡ idlest at live n
unfolding idlest
idlest-not_live at live n is =
    ap (idlest at live) (let e : n + 1 ≡ suc n = omega arith in e) ∙ if_false (slice_index_or live n false) _ _ is

pub ruleset idlest_steps = (idlest-none, idlest-live, idlest-not_live)

pub count_on_bound : (at : List CoreId) (core : ℕ) → count_on at core ≤ length at
unfolding count_on
count_on_bound [] core = omega arith
count_on_bound (place ∷ at) core = grind (arith, nat_tests, count_on_bound at core)

-- the places of a core, one place at a time
pub count_on-none : (at : List CoreId) (core : ℕ) → count_on (take 0 at) core ≡ 0
unfolding count_on
count_on-none at core = refl

pub count_on-more : (at : List CoreId) (i core : ℕ) (d : CoreId) → i < length at
    → count_on (take (i + 1) at) core ≡ count_on (take i at) core + one_on (get_or at i d) core
unfolding count_on
count_on-more [] i core d h = absurd (omega arith)
count_on-more (place ∷ at) zero core d h = omega arith
count_on-more (place ∷ at) (suc i) core d h =
    ap (λ j. count_on (take j (place ∷ at)) core) (let e : suc i + 1 ≡ suc (i + 1) = omega arith in e)
    ∙ omega (arith, count_on-more at i core d (omega arith))

-- a place that goes to another core
pub count_on-set : (at : List CoreId) (i core : ℕ) (d to : CoreId) → i < length at
    → count_on (slice_set at i to) core + one_on (get_or at i d) core ≡ count_on at core + one_on to core
unfolding count_on
count_on-set [] i core d to h = absurd (omega arith)
count_on-set (place ∷ at) zero core d to h = omega arith
count_on-set (place ∷ at) (suc i) core d to h = omega (arith, count_on-set at i core d to (omega arith))

-- a place is counted
pub count_on-at : (at : List CoreId) (i core : ℕ) (d : CoreId) → i < length at → one_on (get_or at i d) core ≤ count_on at core
unfolding count_on
count_on-at [] i core d h = absurd (omega arith)
count_on-at (place ∷ at) zero core d h = omega arith
count_on-at (place ∷ at) (suc i) core d h = omega (arith, count_on-at at i core d (omega arith))

pub ruleset counts_steps = (count_on-none, count_on-more, count_on_bound)

pub ruleset put_steps = (count_on-set, count_on-at, count_on_bound)

-- the plan of a core that is added, one move at a time
pub evening_moves-end : (live : List Bool) (at : List CoreId) → evening_moves live 0 at ≡ []
unfolding evening_moves
evening_moves-end live at = refl

pub evening_moves-none : (live : List Bool) (n : ℕ) (at : List CoreId) → due live at ≡ None → evening_moves live n at ≡ []
unfolding evening_moves
evening_moves-none live zero at none = refl
evening_moves-none live (suc n) at none = rw none refl

pub evening_moves-due : (live : List Bool) (n : ℕ) (at : List CoreId) (m : PlanMove) → 0 < n → due live at ≡ Some m
    → evening_moves live n at ≡ m ∷ evening_moves live (n - 1) (slice_set at m.group.0 m.to)
unfolding evening_moves
evening_moves-due live zero at m some is = absurd (omega arith)
evening_moves-due live (suc n) at m some is =
    rw is (ap (λ k. m ∷ evening_moves live k (moved m at)) (let e : n ≡ suc n - 1 = omega arith in e))

pub evening_moves-over : (live : List Bool) (n : ℕ) (at : List CoreId) (moves all : List PlanMove) → n ≡ 0
    → moves ++ evening_moves live n at ≡ all → moves ≡ all
unfolding evening_moves
evening_moves-over live zero at moves all none e = sym (append-nil moves) ∙ e
evening_moves-over live (suc n) at moves all none e = absurd (omega arith)

pub ruleset even_steps = (evening_moves-end, evening_moves-none, evening_moves-due)

-- the plan of a core that is revoked, one place at a time
pub leaving_moves-end : (others : List Bool) (core place : ℕ) (at : List CoreId) → leaving_moves others core place at [] ≡ []
unfolding leaving_moves
leaving_moves-end others core place at = refl

step : (others : List Bool) (core place : ℕ) (at all : List CoreId) (d : CoreId) (i : ℕ) → i < length all
    → leaving_moves others core place at (drop i all) ≡ leaving_moves others core place at (get_or all i d ∷ drop (i + 1) all)
step others core place at all d i h = rw (add-one, drop-cons all i d)

pub leaving_moves-other : (others : List Bool) (core place : ℕ) (at all : List CoreId) (d : CoreId) (i : ℕ) → i < length all
    → (get_or all i d).0 ≢ core → leaving_moves others core place at (drop i all) ≡ leaving_moves others core (place + 1) at (drop (i + 1) all)
unfolding leaving_moves
leaving_moves-other others core place at all d i h not =
    step others core place at all d i h ∙ if_false ((get_or all i d).0 == core) _ _ (grind (arith, nat_tests))

pub leaving_moves-stuck : (others : List Bool) (core place : ℕ) (at all : List CoreId) (d : CoreId) (i : ℕ) → i < length all
    → (get_or all i d).0 ≡ core → idlest at others 8 ≡ None → leaving_moves others core place at (drop i all) ≡ []
unfolding leaving_moves
leaving_moves-stuck others core place at all d i h is none =
    step others core place at all d i h ∙ if_true ((get_or all i d).0 == core) _ _ (grind (arith, nat_tests)) ∙ rw none refl

pub leaving_moves-own : (others : List Bool) (core place : ℕ) (at all : List CoreId) (d : CoreId) (i to : ℕ) → i < length all
    → (get_or all i d).0 ≡ core → idlest at others 8 ≡ Some to
    → leaving_moves others core place at (drop i all)
    ≡ move_of place to ∷ leaving_moves others core (place + 1) (slice_set at place (record { 0 = to })) (drop (i + 1) all)
unfolding leaving_moves
leaving_moves-own others core place at all d i to h is some =
    step others core place at all d i h ∙ if_true ((get_or all i d).0 == core) _ _ (grind (arith, nat_tests)) ∙ rw some refl

pub ruleset leave_steps = (leaving_moves-end, leaving_moves-other, leaving_moves-stuck, leaving_moves-own)

-- one of two numbers
one_of : (c : Bool) (n best b : ℕ) → (if c then Some n else Some best) ≡ Some b → (b ≡ n) ⊎ (b ≡ best)
one_of true n best b e = inl (cc)
one_of false n best b e = inr (cc)

-- a live core below a number
pub record IsLiveBelow (live : List Bool) (n b : ℕ) : Type 0 where
  pub below : b < n
  pub is_live : slice_index_or live b false ≡ true

chosen : (at : List CoreId) (live : List Bool) (is : Bool) (best : Option ℕ) (n b : ℕ) → slice_index_or live n false ≡ is
    → (best ≡ Some b → IsLiveBelow live n b) → (if is then emptier at best n else best) ≡ Some b → IsLiveBelow live (suc n) b
chosen at live false best n b is lower e = record { below = omega (arith, (lower e).below); is_live = (lower e).is_live }
chosen at live true None n b is lower e =
    let same : b ≡ n = cc in record { below = omega arith; is_live = rw same is }
chosen at live true (Some best) n b is lower e =
    elim (one_of _ n best b e) [
      | inl same ↦ record { below = omega arith; is_live = rw same is }
      | inr same ↦ let l : IsLiveBelow live n b = lower (rw same refl) in record { below = omega (arith, l.below); is_live = l.is_live }
    ]

pub idlest-is_live : (at : List CoreId) (live : List Bool) (n b : ℕ) → idlest at live n ≡ Some b → IsLiveBelow live n b
unfolding idlest
idlest-is_live at live zero b e = absurd (cc)
idlest-is_live at live (suc n) b e = chosen at live (slice_index_or live n false) (idlest at live n) n b refl (idlest-is_live at live n b) e

lowest_on-within : (at : List CoreId) (core place : ℕ) → lowest_on at core ≡ Some place → place < length at
unfolding lowest_on
lowest_on-within at core place e = (position-Some _ at place (record { 0 = 0 }) e).0

found : (at : List CoreId) (core to : ℕ) (live : List Bool) (few : Bool) (m : PlanMove) (o : Option ℕ) → lowest_on at core ≡ o
    → IsLiveBelow live 8 to → (if few then None else option_map (λ (place : ℕ). move_of place to) o) ≡ Some m → IsMoveTo live (length at) m
found at core to live true m o low is e = absurd (cc)
found at core to live false m None low is e = absurd (cc)
found at core to live false m (Some place) low is e =
    let same : move_of place to ≡ m = cc in
    rw (← same) (record { place = lowest_on-within at core place low; core = is.below; is_live = is.is_live })

between : (at : List CoreId) (live : List Bool) (from to : Option ℕ) (m : PlanMove) → ((b : ℕ) → to ≡ Some b → IsLiveBelow live 8 b)
    → due_between at from to ≡ Some m → IsMoveTo live (length at) m
between at live None to m is e = absurd (cc)
between at live (Some from) None m is e = absurd (cc)
between at live (Some from) (Some to) m is e = found at from to live _ m (lowest_on at from) refl (is to refl) e

pub due-is_move : (live : List Bool) (at : List CoreId) (m : PlanMove) → due live at ≡ Some m → IsMoveTo live (length at) m
unfolding due
due-is_move live at m e = between at live (busiest at live 8) (idlest at live 8) m (λ b is. idlest-is_live at live 8 b is) e

goes_on : (P : PlanMove → Type 0) (o : Option PlanMove) (rest : PlanMove → List PlanMove) → ((m : PlanMove) → o ≡ Some m → P m)
    → ((m : PlanMove) → o ≡ Some m → All P (rest m)) → All P (go_on o rest)
goes_on P None rest here later = All-nil P
goes_on P (Some m) rest here later = All-cons P m (rest m) (here m refl) (later m refl)

-- each move of the plan of a core that is added
pub evening_moves-are_moves : (live : List Bool) (n : ℕ) (at : List CoreId) → All (IsMoveTo live (length at)) (evening_moves live n at)
unfolding evening_moves
evening_moves-are_moves live zero at = All-nil _
evening_moves-are_moves live (suc n) at =
    goes_on (IsMoveTo live (length at)) (due live at) _ (due-is_move live at)
    (λ m is. subst (λ k. All (IsMoveTo live k) (evening_moves live n (slice_set at m.group.0 m.to))) (length-set at m.group.0 m.to)
    (evening_moves-are_moves live n (slice_set at m.group.0 m.to)))

pub add_plan-are_moves : (live : List Bool) (core : ℕ) (at : List CoreId)
    → All (IsMoveTo (slice_set live core true) (length at)) (add_plan live core at)
unfolding add_plan
add_plan-are_moves live core at = evening_moves-are_moves (slice_set live core true) (length at) at

either : (P : PlanMove → Type 0) (b : Bool) (xs ys : List PlanMove) → All P xs → All P ys → All P (if b then xs else ys)
either P true xs ys p q = p
either P false xs ys p q = q

placed : (others : List Bool) (place places : ℕ) (o : Option ℕ) (m : PlanMove) → ((b : ℕ) → o ≡ Some b → IsLiveBelow others 8 b)
    → place < places → option_map (λ (to : ℕ). move_of place to) o ≡ Some m → IsMoveTo others places m
placed others place places None m is h e = absurd (cc)
placed others place places (Some to) m is h e =
    let same : move_of place to ≡ m = cc in
    let l : IsLiveBelow others 8 to = is to refl in
    rw (← same) (record { place = h; core = l.below; is_live = l.is_live })

-- each move of the plan of a core that is revoked
pub leaving_moves-are_moves : (others : List Bool) (core place places : ℕ) (at rest : List CoreId) → place + length rest ≡ places
    → All (IsMoveTo others places) (leaving_moves others core place at rest)
unfolding leaving_moves
leaving_moves-are_moves others core place places at [] e = All-nil _
leaving_moves-are_moves others core place places at (owner ∷ rest) e =
    either (IsMoveTo others places) (owner.0 == core) _ _
    (goes_on (IsMoveTo others places) (option_map (λ (to : ℕ). move_of place to) (idlest at others 8)) _
    (λ m is. placed others place places (idlest at others 8) m (λ b h. idlest-is_live at others 8 b h) (omega arith) is)
    (λ m is. leaving_moves-are_moves others core (place + 1) places (moved m at) rest (omega arith)))
    (leaving_moves-are_moves others core (place + 1) places at rest (omega arith))

pub revoke_plan-are_moves : (live : List Bool) (core : ℕ) (at : List CoreId)
    → All (IsMoveTo (slice_set live core false) (length at)) (revoke_plan live core at)
unfolding revoke_plan
revoke_plan-are_moves live core at = leaving_moves-are_moves (slice_set live core false) core 0 (length at) at at (omega arith)

-- what holds of each move of a plan holds of those that were answered
pub All-plan : (P : PlanMove → Type 0) (r : Result (Vec PlanMove Global) NoMemory) (plan : List PlanMove)
    → IfOk r (λ v. v.items ≡ plan) → All P plan → IfOk r (λ v. All P v.items)
All-plan P (Ok v) plan is all = rw is all
All-plan P (Err e) plan is all = tt
