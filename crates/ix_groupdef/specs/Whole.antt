-- What each entry of a journal has, so that a line of a trace can tell it.
use Rattle.std.specs.Prelude.{◌<◌, List, [], ◌∷◌, length, Option, Some, None}
use Rattle.std.specs.List.{AllByRecursion}
use Rattle.ix_base.specs.declared.id.CoreId.{CoreId}
use Rattle.ix_base.specs.declared.id.WireNo.{WireNo}
use Rattle.ix_tcpdef.specs.declared.types.Input.{Input}
use Rattle.ix_tcpdef.specs.declared.types.Input.TheVariants as inputs
use Rattle.ix_groupdef.specs.declared.types.JournalEntry.{JournalEntry}
use Rattle.ix_groupdef.specs.Setting.{Setting}
use Rattle.ix_groupdef.specs.Group.{Cycle, Frames, Time, Connect, run}

-- the core that took a segment
abbrev pub HasCore : Input → Option CoreId → Type 0
HasCore (inputs.Segment w seg) None = ⊥
HasCore (inputs.Segment w seg) (Some core) = Unit {0}
HasCore inputs.Timer core = Unit {0}
HasCore (inputs.Call ask) core = Unit {0}
HasCore inputs.Flush core = Unit {0}

-- the last entry of the cycle that a flush ends
abbrev pub HasEnd : Input → Option WireNo → Type 0
HasEnd (inputs.Segment w seg) end = Unit {0}
HasEnd inputs.Timer end = Unit {0}
HasEnd (inputs.Call ask) end = Unit {0}
HasEnd inputs.Flush None = ⊥
HasEnd inputs.Flush (Some w) = Unit {0}

-- the entries of a journal, with the last entries of their cycles
abbrev pub AreWhole : List JournalEntry → List (Option WireNo) → Type 0
AreWhole [] [] = Unit {0}
AreWhole [] (end ∷ ends) = ⊥
AreWhole (e ∷ es) [] = ⊥
AreWhole (e ∷ es) (end ∷ ends) = HasCore e.input e.core × HasEnd e.input end × AreWhole es ends

-- a cycle of frames has one at least
abbrev pub HasEntry : Cycle → Type 0
HasEntry (Frames core frames) = 0 < length frames
HasEntry (Time core w t) = Unit {0}

-- ## All journals of a group whose cycles have entries
abbrev pub JournalsAreWhole : Type 0
JournalsAreWhole =
    (env : Setting) (asked : List Connect) (cs : List Cycle) → AllByRecursion HasEntry cs → AllByRecursion (λ l. AreWhole l.journal l.ends) (run env asked cs).lives
