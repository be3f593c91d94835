-- Each move of a plan takes its place to another core than the one that it is on.
use Rattle.std.proofs.Common.{◌≡◌, ◌≢◌, ℕ, zero, suc, ◌+◌, ◌<◌, List, [], ◌∷◌, length, get_or, refl, ap, sym, subst, ◌∙◌, arith, Bool, true, false, Option, Some, None}
use Rattle.std.specs.Prelude.{if◌then◌else◌, ◌==◌, nat_lt, option_map, slice_get, slice_index_or, slice_set}
use Rattle.std.proofs.lemmas.Bool.Decides.{nat_tests}
use Rattle.std.proofs.lemmas.List.Quantifiers.{position-Some}
use Rattle.ix_base.specs.declared.id.CoreId.{CoreId}
use Rattle.ix_cp.specs.declared.plan.PlanMove.{PlanMove}
use Rattle.ix_cp.specs.Plan.{ArePlans, GoElsewhere, add_plan, busiest, count_on, due, due_between, evening_moves, go_on, idlest, is_core, leaving_moves, lowest_on, move_of, moved, revoke_plan}
use Rattle.ix_cp.proofs.PlanLaws.{add_plan-are_moves, idlest-is_live, revoke_plan-are_moves}

-- the places of a list, one of which is written
get_in : (at : List CoreId) (i : ℕ) (d : CoreId) → i < length at → slice_get at i ≡ Some (get_or at i d)
get_in [] i d h = absurd (omega arith)
get_in (owner ∷ at) zero d h = refl
get_in (owner ∷ at) (suc i) d h = get_in at i d (omega arith)

get_other : (at : List CoreId) (i j : ℕ) (to : CoreId) → j ≢ i → slice_get (slice_set at i to) j ≡ slice_get at j
get_other [] i j to other = refl
get_other (owner ∷ at) zero zero to other = absurd (other refl)
get_other (owner ∷ at) zero (suc j) to other = refl
get_other (owner ∷ at) (suc i) zero to other = refl
get_other (owner ∷ at) (suc i) (suc j) to other = get_other at i j to (λ e. other (ap suc e))

-- a core that is no longer live
no_longer : (live : List Bool) (core : ℕ) → slice_index_or (slice_set live core false) core false ≡ false
no_longer [] core = refl
no_longer (b ∷ live) zero = refl
no_longer (b ∷ live) (suc core) = no_longer live core

apart : (from to : ℕ) (o : Option CoreId) → is_core from o ≡ true → from ≢ to → is_core to o ≡ false
apart from to None is other = refl
apart from to (Some owner) is other = grind (arith, nat_tests)

lowest_on-on : (at : List CoreId) (core place : ℕ) → lowest_on at core ≡ Some place → is_core core (slice_get at place) ≡ true
unfolding lowest_on
lowest_on-on at core place e =
    let found = position-Some (λ (owner : CoreId). owner.0 == core) at place (record { 0 = 0 }) e in
    ap (is_core core) (get_in at place (record { 0 = 0 }) found.0) ∙ found.1

found : (at : List CoreId) (from to : ℕ) (few : Bool) (m : PlanMove) (o : Option ℕ) → (few ≡ false → from ≢ to) → lowest_on at from ≡ o
    → (if few then None else option_map (λ (place : ℕ). move_of place to) o) ≡ Some m → is_core m.to.0 (slice_get at m.group.0) ≡ false
found at from to true m o other low e = absurd (cc)
found at from to false m None other low e = absurd (cc)
found at from to false m (Some place) other low e =
    let same : move_of place to ≡ m = cc in
    rw (← same) (apart from to (slice_get at place) (lowest_on-on at from place low) (other refl))

differ : (at : List CoreId) (from to : ℕ) → nat_lt (count_on at from) (count_on at to + 2) ≡ false → from ≢ to
differ at from to h is = let same : count_on at from ≡ count_on at to = ap (count_on at) is in grind (arith, nat_tests)

between : (at : List CoreId) (from to : Option ℕ) (m : PlanMove) → due_between at from to ≡ Some m → is_core m.to.0 (slice_get at m.group.0) ≡ false
between at None to m e = absurd (cc)
between at (Some from) None m e = absurd (cc)
between at (Some from) (Some to) m e = found at from to _ m (lowest_on at from) (differ at from to) refl e

due-elsewhere : (live : List Bool) (at : List CoreId) (m : PlanMove) → due live at ≡ Some m → is_core m.to.0 (slice_get at m.group.0) ≡ false
unfolding due
due-elsewhere live at m e = between at (busiest at live 8) (idlest at live 8) m e

evening_moves-elsewhere : (live : List Bool) (n : ℕ) (at : List CoreId) → GoElsewhere at (evening_moves live n at)
unfolding evening_moves
evening_moves-elsewhere live zero at = tt
evening_moves-elsewhere live (suc n) at =
    step (due live at) (λ m is. due-elsewhere live at m is) (λ m. evening_moves-elsewhere live n (moved m at)) where
      step : (o : Option PlanMove) → ((m : PlanMove) → o ≡ Some m → is_core m.to.0 (slice_get at m.group.0) ≡ false)
          → ((m : PlanMove) → GoElsewhere (moved m at) (evening_moves live n (moved m at)))
          → GoElsewhere at (go_on o (λ (m : PlanMove). evening_moves live n (moved m at)))
      step None here later = tt
      step (Some m) here later = (here m refl, later m)

-- the places from one on are as in the list that is still to be looked at
leaving_moves-elsewhere : (others : List Bool) (core place : ℕ) (at rest : List CoreId) → slice_index_or others core false ≡ false
    → ((i : ℕ) → slice_get rest i ≡ slice_get at (place + i)) → GoElsewhere at (leaving_moves others core place at rest)
unfolding leaving_moves
leaving_moves-elsewhere others core place at [] over same = tt
leaving_moves-elsewhere others core place at (owner ∷ rest) over same =
    step (owner.0 == core) refl (idlest at others 8) (λ to is. (idlest-is_live at others 8 to is).is_live)
    (λ to. leaving_moves-elsewhere others core (place + 1) (slice_set at place to) rest over
    (λ i. next i ∙ sym (get_other at place (place + 1 + i) to (λ e. omega arith))))
    (leaving_moves-elsewhere others core (place + 1) at rest over next) where
      next : (i : ℕ) → slice_get rest i ≡ slice_get at (place + 1 + i)
      next i = same (suc i) ∙ ap (slice_get at) (let e : place + suc i ≡ place + 1 + i = omega arith in e)

      here : Some owner ≡ slice_get at place
      here = same zero ∙ ap (slice_get at) (let e : place + 0 ≡ place = omega arith in e)

      other : (to : ℕ) → slice_index_or others to false ≡ true → core ≢ to
      other to live is = let gone : slice_index_or others to false ≡ false = ap (λ k. slice_index_or others k false) (sym is) ∙ over in cc

      step : (own : Bool) → (owner.0 == core) ≡ own → (o : Option ℕ) → ((to : ℕ) → o ≡ Some to → slice_index_or others to false ≡ true)
          → ((to : CoreId) → GoElsewhere (slice_set at place to) (leaving_moves others core (place + 1) (slice_set at place to) rest))
          → GoElsewhere at (leaving_moves others core (place + 1) at rest)
          → GoElsewhere at (if own then
          go_on (option_map (λ (to : ℕ). move_of place to) o) (λ (m : PlanMove). leaving_moves others core (place + 1) (moved m at) rest)
          else leaving_moves others core (place + 1) at rest)
      step false is o live gone stays = stays
      step true is None live gone stays = tt
      step true is (Some to) live gone stays =
          (subst (λ o. is_core to o ≡ false) here (apart core to (Some owner) is (other to (live to refl))), gone (record { 0 = to }))

pub add_plan-elsewhere : (live : List Bool) (core : ℕ) (at : List CoreId) → GoElsewhere at (add_plan live core at)
unfolding add_plan
add_plan-elsewhere live core at = evening_moves-elsewhere (slice_set live core true) (length at) at

pub revoke_plan-elsewhere : (live : List Bool) (core : ℕ) (at : List CoreId) → GoElsewhere at (revoke_plan live core at)
unfolding revoke_plan
revoke_plan-elsewhere live core at =
    leaving_moves-elsewhere (slice_set live core false) core 0 at at (no_longer live core)
    (λ i. ap (slice_get at) (let e : i ≡ 0 + i = omega arith in e))

pub are_plans : ArePlans
are_plans = record {
  add = λ live core at. record { moves = add_plan-are_moves live core at; elsewhere = add_plan-elsewhere live core at };
  revoke = λ live core at. record { moves = revoke_plan-are_moves live core at; elsewhere = revoke_plan-elsewhere live core at };
}
