-- The cutting of a group that the lines of a report tell, read entry by entry.
use Rattle.std.specs.Prelude.{ℕ, Bool, true, false, ◌==◌, not, ◌&&◌, nat_le, List, [], ◌∷◌, ◌++◌, length, map, Option, Some, None}
use Rattle.std.specs.List.{list_all}
use Rattle.ix_base.specs.declared.id.CoreId.{CoreId}
use Rattle.ix_groupdef.specs.Calls.{is_empty}
use Rattle.ix_groupdef.specs.Group.{Cycle, Frames, Time as TimeCycle}
use Rattle.ix_lines.specs.declared.types.ConnLine.{ConnLine}
use Rattle.ix_playdef.specs.declared.wire.Given.{Given}
use Rattle.ix_playdef.specs.declared.wire.Given.TheVariants.{Frame, Time}
use Rattle.ix_fits.specs.Cutting.{Due}
use Rattle.ix_fits.specs.Read.{alone, core_of, cycle_with, is_flushed, is_heard}
use Rattle.ix_told.specs.declared.cutting.Ending.{Ending}
use Rattle.ix_told.specs.declared.cutting.Ending.TheVariants.{Alone, Closes, Waits}
use Rattle.ix_told.specs.declared.cycle.ReadCycle.{ReadCycle}
use Rattle.ix_told.specs.declared.cycle.ReadCycle.TheVariants as read

-- ## What one more entry makes of the entries that wait for the end of their cycle
-- An entry at which a connection is flushed closes the cycle. A frame of a connection waits, and so does every frame behind one that waits.
-- Every other entry is a cycle of its own; where it is a time, those that wait are too.
abbrev pub ending_by : Bool → Bool → Bool → Ending
ending_by true heard waiting = Closes
ending_by false true waiting = Waits
ending_by false false true = Waits
ending_by false false false = Alone

abbrev pub ending_of : List ConnLine → Bool → Given → Ending
ending_of conns waiting (Frame t) = ending_by (is_flushed conns t.w.0) (is_heard conns t.w.0) waiting
ending_of conns waiting (Time w t) = Alone

-- the cycles then, where `rest` gives those behind the entry, where some entries wait
abbrev pub cycles_by : Ending → List Due → Due → (List Due → List Cycle) → List Cycle
cycles_by Waits ds d rest = rest (ds ++ d ∷ [])
cycles_by Closes ds d rest = cycle_with ds d ∷ rest []
cycles_by Alone ds d rest = map alone (ds ++ d ∷ []) ++ rest []

-- Only a frame waits or closes a cycle.
abbrev pub IsFrame : Given → Type 0
IsFrame (Frame t) = Unit {0}
IsFrame (Time w t) = ⊥

abbrev pub IsOfFrame : Ending → Given → Type 0
IsOfFrame Waits given = IsFrame given
IsOfFrame Closes given = IsFrame given
IsOfFrame Alone given = Unit {0}

-- ## Cycles as they are kept
abbrev pub cycle_of : ReadCycle → Cycle
cycle_of (read.Frames batch) = Frames batch.core batch.frames
cycle_of (read.Time core w t) = TimeCycle core w t

-- ## Whether what is read is a cutting
-- a core steps it, and it is this one
abbrev pub steps_on : CoreId → Option ℕ → Bool
steps_on core None = false
steps_on core (Some c) = c == core.0

-- an entry may stand in one cycle with another one, on a core
abbrev pub goes_with : CoreId → Due → Due → Bool
goes_with core first d = (steps_on core d.core && d.tenure == first.tenure) && d.settles == first.settles

-- Frames are a cycle where they are no more than a turn takes, of one tenure and between two settles, and one core steps them.
abbrev pub are_cycle : ℕ → List Due → Bool
are_cycle batch [] = false
are_cycle batch (d ∷ ds) = nat_le (length (d ∷ ds)) batch && list_all (goes_with (core_of d) d) (d ∷ ds)

abbrev pub is_cycle : ℕ → Due → Given → Bool
is_cycle batch d (Frame t) = are_cycle batch (d ∷ [])
is_cycle batch d (Time w t) = steps_on (core_of d) d.core

-- an entry as a cycle of its own
abbrev pub is_cycle_alone : ℕ → Due → Bool
is_cycle_alone batch d = is_cycle batch d d.given

-- the same cases as above, with `rest` for those behind the entry
abbrev pub fits_by : ℕ → Ending → List Due → Due → (List Due → Bool) → Bool
fits_by batch Waits ds d rest = rest (ds ++ d ∷ [])
fits_by batch Closes ds d rest = are_cycle batch (ds ++ d ∷ []) && rest []
fits_by batch Alone ds d rest = list_all (is_cycle_alone batch) (ds ++ d ∷ []) && rest []

unfoldable pub fits_read : ℕ → List ConnLine → List Due → List Due → Bool
fits_read batch conns ds [] = list_all (is_cycle_alone batch) ds
fits_read batch conns ds (e ∷ es) = fits_by batch (ending_of conns (not (is_empty ds)) e.given) ds e (λ more. fits_read batch conns more es)
