-- Frames that buffers hold: those that the card accepted have at most 2,048 bytes.
use Rattle.std.specs.Prelude.{◌≤◌, ℕ, List, length, slice_get, All, Option, Some, None}
use Rattle.ix_groupdef.specs.declared.types.Taken.{Taken}
use Rattle.ix_lines.specs.declared.types.EntryLine.{EntryLine}
use Rattle.ix_lines.specs.declared.types.EntryLine.TheVariants as lines
use Rattle.ix_lines.specs.declared.types.Fate.{Fate}
use Rattle.ix_lines.specs.declared.types.Fate.TheVariants as fates
use Rattle.ix_playdef.specs.declared.wire.Given.{Given}
use Rattle.ix_playdef.specs.declared.wire.Given.TheVariants.{Frame, Time}

abbrev pub IsShort : List ℕ → Type 0
IsShort frame = length frame ≤ 2048

abbrev pub IsShortIfAny : Option (List ℕ) → Type 0
IsShortIfAny None = Unit {0}
IsShortIfAny (Some frame) = IsShort frame

abbrev pub IsHeldShort : Fate → Option (List ℕ) → Type 0
IsHeldShort (fates.Buf b) frame = IsShortIfAny frame
IsHeldShort (fates.RingFull n) frame = Unit {0}
IsHeldShort (fates.NoBuffer n) frame = Unit {0}
IsHeldShort (fates.TooLong n) frame = Unit {0}

abbrev pub IsShortLine : List (List ℕ) → EntryLine → Type 0
IsShortLine frames (lines.Frame rec at group ring fate) = IsHeldShort fate (slice_get frames rec)
IsShortLine frames (lines.Time t) = Unit {0}
IsShortLine frames (lines.Tag group) = Unit {0}
IsShortLine frames (lines.Move group to) = Unit {0}
IsShortLine frames lines.Settle = Unit {0}

-- the accepted frames among the entries of a report
abbrev pub AreShort : List (List ℕ) → List EntryLine → Type 0
AreShort frames entries = All (IsShortLine frames) entries

abbrev pub IsShortTaken : Taken → Type 0
IsShortTaken taken = length taken.frame ≤ 2048

-- what a group is given
abbrev pub IsShortGiven : Given → Type 0
IsShortGiven (Frame taken) = IsShortTaken taken
IsShortGiven (Time w t) = Unit {0}

abbrev pub IsShortlyGiven : Option Given → Type 0
IsShortlyGiven None = Unit {0}
IsShortlyGiven (Some given) = IsShortGiven given
