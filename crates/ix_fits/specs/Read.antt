-- The cutting that the lines of a report tell.
use Rattle.std.specs.Prelude.{◌≡◌, ℕ, Bool, false, not, ◌||◌, ◌==◌, if◌then◌else◌, List, [], ◌∷◌, ◌++◌, map, unwrap_or}
use Rattle.std.specs.List.{list_any}
use Rattle.ix_base.specs.declared.id.CoreId.{CoreId}
use Rattle.ix_groupdef.specs.Calls.{is_empty}
use Rattle.ix_groupdef.specs.Group.{Cycle, Frames, Time as TimeCycle}
use Rattle.ix_groupdef.specs.Places.{accepted}
use Rattle.ix_lines.specs.declared.types.ConnLine.{ConnLine}
use Rattle.ix_lines.specs.declared.types.InputKind.{InputKind}
use Rattle.ix_lines.specs.declared.types.InputKind.TheVariants as kinds
use Rattle.ix_lines.specs.declared.types.InputLine.{InputLine}
use Rattle.ix_playdef.specs.declared.wire.Given.{Given}
use Rattle.ix_playdef.specs.declared.wire.Given.TheVariants.{Frame, Time}
use Rattle.ix_fits.specs.Cutting.{Due, frames_due}

-- Every connection that has an input in a cycle is flushed at the cycle's last entry. So a cycle of frames ends where a flush is printed, and
-- begins at the first segment of a connection behind the end before it; every other entry may as well be a cycle of its own.

-- ## What the lines of a group's connections name
abbrev pub is_flush_at : ℕ → InputKind → Bool
is_flush_at w (kinds.Flush v) = v.0 == w
is_flush_at w _ = false

abbrev pub is_segment_at : ℕ → InputKind → Bool
is_segment_at w (kinds.Seg v core) = v.0 == w
is_segment_at w _ = false

abbrev pub has_input : (InputKind → Bool) → ConnLine → Bool
has_input test c = list_any (λ (l : InputLine). test l.kind) c.inputs

-- whether a connection is flushed at this entry
abbrev pub is_flushed : List ConnLine → ℕ → Bool
is_flushed conns w = list_any (has_input (is_flush_at w)) conns

-- whether this entry belongs to a connection
abbrev pub is_heard : List ConnLine → ℕ → Bool
is_heard conns w = list_any (has_input (is_segment_at w)) conns

-- ## Cycles, where these entries of a cycle are already read
abbrev pub core_of : Due → CoreId
core_of d = record { 0 = unwrap_or d.core 0 }

abbrev pub cycle_alone : Due → Given → Cycle
cycle_alone d (Frame t) = Frames (core_of d) (t ∷ [])
cycle_alone d (Time w t) = TimeCycle (core_of d) w t

-- an entry as a cycle of its own
abbrev pub alone : Due → Cycle
alone d = cycle_alone d d.given

-- a cycle begins with the first of some entries, and ends with this one
abbrev pub first_core : CoreId → List Due → CoreId
first_core core [] = core
first_core core (d ∷ ds) = core_of d

abbrev pub cycle_with : List Due → Due → Cycle
cycle_with ds d = Frames (first_core (core_of d) ds) (frames_due (ds ++ d ∷ []))

-- what one more entry makes: whether it is flushed at, and whether it belongs to a connection; `rest` is what follows, where entries are read
abbrev pub frame_step : Bool → Bool → List Due → Due → (List Due → List Cycle) → List Cycle
frame_step flushed heard ds d rest =
    if flushed then cycle_with ds d ∷ rest []
    else if heard || not (is_empty ds) then rest (ds ++ d ∷ [])
    else alone d ∷ rest []

abbrev pub read_step : List ConnLine → Given → List Due → Due → (List Due → List Cycle) → List Cycle
read_step conns (Frame t) ds d rest = frame_step (is_flushed conns t.w.0) (is_heard conns t.w.0) ds d rest
read_step conns (Time w t) ds d rest = map alone (ds ++ d ∷ []) ++ rest []

unfoldable pub cycles_read : List ConnLine → List Due → List Due → List Cycle
cycles_read conns ds [] = map alone ds
cycles_read conns ds (e ∷ es) = read_step conns e.given ds e (λ more. cycles_read conns more es)

-- of a group whose connections are printed by these lines
abbrev pub cutting_read : List ConnLine → List Due → List Cycle
cutting_read conns es = cycles_read conns [] es

-- ## It takes all frames of the group, in their order
abbrev pub ReadTakesAll : Type 0
ReadTakesAll = (conns : List ConnLine) (ds : List Due) → accepted (cutting_read conns ds) ≡ frames_due ds
