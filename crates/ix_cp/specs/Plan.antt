-- The plans by which places are spread over the live cores. A place is a flow group or a class of flow groups; the list `at` has each
-- place's core. Formats: docs/SCRIPT.md, "Plans".
use Rattle.std.specs.Prelude.{◌≡◌, ◌<◌, ℕ, zero, suc, ◌+◌, ◌==◌, List, [], ◌∷◌, length, Bool, true, false, if◌then◌else◌, nat_lt, Option, Some, None, option_map, position, slice_get, slice_index, slice_index_or, slice_set, All}
use Rattle.ix_base.specs.declared.id.CoreId.{CoreId}
use Rattle.ix_cp.specs.declared.plan.PlanMove.{PlanMove}

-- one where a place is on a core
abbrev pub one_on : CoreId → ℕ → ℕ
one_on place core = if place.0 == core then 1 else 0

-- the number of places of a core
unfoldable pub count_on : List CoreId → ℕ → ℕ
count_on [] core = 0
count_on (place ∷ at) core = one_on place core + count_on at core

-- the lowest place of a core
unfoldable pub lowest_on : List CoreId → ℕ → Option ℕ
lowest_on at core = position (λ (place : CoreId). place.0 == core) at

-- of two cores the one with more places, the first of them at a tie
abbrev pub fuller : List CoreId → Option ℕ → ℕ → Option ℕ
fuller at None core = Some core
fuller at (Some best) core = if nat_lt (count_on at best) (count_on at core) then Some core else Some best

-- of two cores the one with fewer places, the first of them at a tie
abbrev pub emptier : List CoreId → Option ℕ → ℕ → Option ℕ
emptier at None core = Some core
emptier at (Some best) core = if nat_lt (count_on at core) (count_on at best) then Some core else Some best

-- of the cores below a number, the live one with the most places, the lowest at a tie
unfoldable pub busiest : List CoreId → List Bool → ℕ → Option ℕ
busiest at live zero = None
busiest at live (suc n) = if slice_index_or live n false then fuller at (busiest at live n) n else busiest at live n

-- of the cores below a number, the live one with the fewest places, the lowest at a tie
unfoldable pub idlest : List CoreId → List Bool → ℕ → Option ℕ
idlest at live zero = None
idlest at live (suc n) = if slice_index_or live n false then emptier at (idlest at live n) n else idlest at live n

-- these are the numbers of places of the eight cores
abbrev pub Counts : List CoreId → List ℕ → Type 0
Counts at counts = (core : ℕ) → core < 8 → slice_index counts core ≡ count_on at core

-- a move of a place to a core
abbrev pub move_of : ℕ → ℕ → PlanMove
move_of place to = record { group = record { 0 = place }; to = record { 0 = to } }

-- Where one core has at least two places more than another, the lowest place of the former goes to the latter.
abbrev pub due_between : List CoreId → Option ℕ → Option ℕ → Option PlanMove
due_between at (Some from) (Some to) =
    if nat_lt (count_on at from) (count_on at to + 2) then None else option_map (λ (place : ℕ). move_of place to) (lowest_on at from)
due_between at _ _ = None

-- the move that is due between the live core with the most places and the one with the fewest
unfoldable pub due : List Bool → List CoreId → Option PlanMove
due live at = due_between at (busiest at live 8) (idlest at live 8)

-- the places after a move
abbrev pub moved : PlanMove → List CoreId → List CoreId
moved m at = slice_set at m.group.0 m.to

-- the places after moves
abbrev pub carried : List PlanMove → List CoreId → List CoreId
carried [] at = at
carried (m ∷ moves) at = carried moves (moved m at)

-- a move, if there is one, and the moves behind it
abbrev pub go_on : Option PlanMove → (PlanMove → List PlanMove) → List PlanMove
go_on None rest = []
go_on (Some m) rest = m ∷ rest m

-- Moves as long as one is due, at most as many as a number.
unfoldable pub evening_moves : List Bool → ℕ → List CoreId → List PlanMove
evening_moves live zero at = []
evening_moves live (suc n) at = go_on (due live at) (λ (m : PlanMove). evening_moves live n (moved m at))

-- The plan of a core that is added: it counts as live. No place moves twice, so the number of places is enough.
unfoldable pub add_plan : List Bool → ℕ → List CoreId → List PlanMove
add_plan live core at = evening_moves (slice_set live core true) (length at) at

-- The moves of a core's places from a place on, each to that of the other live cores that has the fewest places so far. The places
-- stand as in the first list, and the second has those that are still to be looked at.
unfoldable pub leaving_moves : List Bool → ℕ → ℕ → List CoreId → List CoreId → List PlanMove
leaving_moves others core place at [] = []
leaving_moves others core place at (owner ∷ rest) =
    if owner.0 == core then
    go_on (option_map (λ (to : ℕ). move_of place to) (idlest at others 8)) (λ (m : PlanMove). leaving_moves others core (place + 1) (moved m at) rest)
    else leaving_moves others core (place + 1) at rest

-- the plan of a core that is revoked: it no longer counts as live
unfoldable pub revoke_plan : List Bool → ℕ → List CoreId → List PlanMove
revoke_plan live core at = leaving_moves (slice_set live core false) core 0 at at

-- a move of one of so many places to a live core
pub record IsMoveTo (live : List Bool) (places : ℕ) (m : PlanMove) : Type 0 where
  pub place : m.group.0 < places
  pub core : m.to.0 < 8
  pub is_live : slice_index_or live m.to.0 false ≡ true

-- whether a place is on a core, where there is such a place
abbrev pub is_core : ℕ → Option CoreId → Bool
is_core core None = false
is_core core (Some owner) = owner.0 == core

-- Each move takes its place to another core than the one that it is on by the moves before it.
abbrev pub GoElsewhere : List CoreId → List PlanMove → Type 0
GoElsewhere at [] = Unit {0}
GoElsewhere at (m ∷ plan) = (is_core m.to.0 (slice_get at m.group.0) ≡ false) × GoElsewhere (moved m at) plan

-- a plan for these places, with these cores live
pub record IsPlanOf (live : List Bool) (at : List CoreId) (plan : List PlanMove) : Type 0 where
  pub moves : All (IsMoveTo live (length at)) plan
  pub elsewhere : GoElsewhere at plan

-- The plans of both kinds are such, whichever cores are live.
pub record ArePlans : Type 0 where
  pub add : (live : List Bool) (core : ℕ) (at : List CoreId) → IsPlanOf (slice_set live core true) at (add_plan live core at)
  pub revoke : (live : List Bool) (core : ℕ) (at : List CoreId) → IsPlanOf (slice_set live core false) at (revoke_plan live core at)
