-- Two plays of two cores, worked out by hand: all groups are at home on core 0, and group 0 moves. And a list of events that is no history.
use Rattle.std.specs.Prelude.{◌≡◌, ℕ, zero, suc, Bool, true, false, List, [], ◌∷◌, Some, None, replicate}
use Rattle.ix_desk.specs.declared.unit.DeskItem.TheVariants.{Work, Tag, Cut, Start}
use Rattle.ix_desk.specs.Views.{Group, View}
use Rattle.ix_desk.specs.Groups.{empty, at_home}
use Rattle.ix_order.specs.Wire.{accepted, Entry, frame, tag, move, settle, Table}
use Rattle.ix_history.specs.Runs.{Runs}
use Rattle.ix_history.specs.Events.{for_group, at_end, Parcel, Event, took, came, worked, gone, Happened}
use Rattle.ix_history.specs.Join.{Played}

-- a unit is what it has stepped, an item is its number, and nothing is handed out
abbrev pub Log : Type 0
Log = List (ℕ × ℕ)

abbrev pub all_count : ℕ → Bool
all_count w = true

abbrev pub own_name : ℕ → ℕ
own_name w = w

abbrev pub own_steps : Log → List (ℕ × ℕ)
own_steps u = u

abbrev pub Anyhow : Log → ℕ → ℕ → List ℕ → Log → Type 0
Anyhow u e c items v = Unit {0}

abbrev pub Nothing : Log → ℕ → Log → Type 0
Nothing u out v = v ≡ u

abbrev pub table : Table
table g = record { core = 0; tenure = 0 }

abbrev pub new_unit : ℕ → Log
new_unit g = []

-- the desks of core 0 and of core 1, with this for group 0
abbrev pub at_first : Group Log ℕ → View Log ℕ
at_first g = record { core = 0; failed = false; groups = g ∷ replicate 511 (at_home []) }

abbrev pub at_second : Group Log ℕ → View Log ℕ
at_second g = record { core = 1; failed = false; groups = g ∷ replicate 511 empty }

abbrev pub before : ℕ → View Log ℕ
before zero = at_first (at_home [])
before (suc c) = at_second empty

-- a frame, the tag, a frame behind it, the move to core 1, and a frame there
abbrev pub behind_the_tag : List Entry
behind_the_tag = frame 0 (accepted 0) ∷ tag 0 ∷ frame 0 (accepted 0) ∷ move 0 1 ∷ frame 0 (accepted 1) ∷ settle ∷ []

abbrev pub moved : Parcel Log ℕ
moved = record { group = 0; tenure = 1; to = 1; unit = (0, 0) ∷ []; queue = 2 ∷ [] }

-- the parcel lands before the piece of its tenure begins
abbrev pub histories_behind : ℕ → List (Event Log ℕ ℕ)
histories_behind zero =
    took (for_group 0 (Work 0)) ∷ took (for_group 0 Tag) ∷ worked 9 ∷ took (for_group 0 (Work 2)) ∷ took (for_group 0 (Cut (record { 0 = 1 }))) ∷ took at_end ∷ gone moved ∷ []
histories_behind (suc c) = came 0 moved ∷ took (for_group 0 (Start 1)) ∷ took (for_group 0 (Work 4)) ∷ took at_end ∷ worked 9 ∷ []

abbrev pub after_behind : ℕ → View Log ℕ
after_behind zero = at_first empty
after_behind (suc c) = at_second (record {
  cut = [];
  current = Some (record { tenure = 1; tagged = false; unit = Some ((0, 0) ∷ (2, 1) ∷ (4, 1) ∷ []); remote = []; local = []; behind = [] });
  early = [];
  arrived = 1 ∷ [];
  last = 1;
})

-- to core 1 and back before the only frame
abbrev pub two_moves : List Entry
two_moves = tag 0 ∷ move 0 1 ∷ tag 0 ∷ move 0 0 ∷ frame 0 (accepted 0) ∷ settle ∷ []

abbrev pub there : Parcel Log ℕ
there = record { group = 0; tenure = 1; to = 1; unit = []; queue = [] }

abbrev pub back : Parcel Log ℕ
back = record { group = 0; tenure = 2; to = 0; unit = []; queue = [] }

abbrev pub histories_two : ℕ → List (Event Log ℕ ℕ)
histories_two zero =
    took (for_group 0 Tag) ∷ took (for_group 0 (Cut (record { 0 = 1 }))) ∷ gone there ∷ took (for_group 0 (Start 2)) ∷ took (for_group 0 (Work 4)) ∷ took at_end ∷ came 1 back ∷ worked 9 ∷ []
histories_two (suc c) = took (for_group 0 (Start 1)) ∷ took (for_group 0 Tag) ∷ took (for_group 0 (Cut (record { 0 = 0 }))) ∷ took at_end ∷ came 0 there ∷ gone back ∷ []

abbrev pub after_two : ℕ → View Log ℕ
after_two zero = at_first (record {
  cut = [];
  current = Some (record { tenure = 2; tagged = false; unit = Some ((4, 0) ∷ []); remote = []; local = []; behind = [] });
  early = [];
  arrived = 2 ∷ [];
  last = 2;
})
after_two (suc c) = at_second (record { cut = []; current = None; early = []; arrived = 1 ∷ []; last = 1 })

-- Both are plays that the join law is about, and a unit is not shipped before its piece was cut.
pub record WorkedPlays : Type 0 where
  pub frame_behind_the_tag : (env : ℕ) → Played all_count own_name own_steps Anyhow Nothing env 2 table behind_the_tag new_unit before after_behind histories_behind
  pub two_moves_before_a_frame : (env : ℕ) → Played all_count own_name own_steps Anyhow Nothing env 2 table two_moves new_unit before after_two histories_two
  pub no_shipment_before_its_cut : (env : ℕ) (y : View Log ℕ) (s : Parcel Log ℕ) → s.group ≡ 0
      → Runs (Happened all_count own_name own_steps Anyhow Nothing env) (before 0) (took (for_group 0 Tag) ∷ gone s ∷ []) y → ⊥
