-- What a check of the five files of a play answers, and what it reads: docs/CHECK.md.
use Rattle.std.specs.Prelude.{◌≡◌, Bool, true, false, ℕ, List, Ok, Err, Some}
use Rattle.std.specs.Io.KnownBytes.{IsAtEnd}
use Rattle.ix_base.specs.declared.role.Kind.TheVariants.{Writing}
use Rattle.ix_base.specs.declared.role.Role.{Role}
use Rattle.ix_base.specs.declared.role.Role.TheVariants as role
use Rattle.ix_base.specs.Host.{State}
use Rattle.ix_check.specs.declared.verdict.Finding.{Finding}
use Rattle.ix_check.specs.declared.verdict.Verdict.{Verdict}
use Rattle.ix_check.specs.declared.verdict.Verdict.TheVariants.{Yes, No}
use Rattle.ix_check.specs.Verdict.{IsFound}
use Rattle.ix_top.specs.declared.status.Status.{Status}
use Rattle.ix_top.specs.declared.status.Status.TheVariants.{Done, Usage, Conf, Script, Capture, ReadFault, WriteFault, NoMemory, Refused}
use Rattle.ix_top.specs.Top.{AllRead, AreFiles, Given, Inputs, Tells, play_meaning}

-- the files of a check, by their bytes
pub record GivenFiles : Type 0 where
  pub inputs : Given
  pub replies : List ℕ
  pub trace : List ℕ

-- the host tells what the five roles have left
pub record TellsFiles (x : State) (f : GivenFiles) : Type 0 where
  pub inputs : Tells x f.inputs
  pub trace : x.left role.GivenTrace ≡ Some f.trace
  pub replies : x.left role.GivenReplies ≡ Some f.replies

-- all five are read to their end
pub record AllFilesRead (x : State) : Type 0 where
  pub inputs : AllRead x
  pub trace : IsAtEnd (x.left role.GivenTrace)
  pub replies : IsAtEnd (x.left role.GivenReplies)

-- ## The answer
-- The inputs have a meaning, and the other two files are those of a play of them.
pub record AreOfPlay (f : GivenFiles) : Type 0 where
  pub inputs : Inputs
  pub meaning : play_meaning f.inputs ≡ Ok inputs
  pub files : AreFiles inputs f.replies f.trace

-- The inputs have a meaning, the other two files are those of no play of them, and this is the first thing about them that isn't so.
pub record AreRefused (f : GivenFiles) (finding : Finding) : Type 0 where
  pub inputs : Inputs
  pub meaning : play_meaning f.inputs ≡ Ok inputs
  pub found : IsFound inputs.settings inputs.frames inputs.entries f.replies f.trace finding
  pub never : AreFiles inputs f.replies f.trace → ⊥

-- the status that a check of these files answers, where it isn't a fault or want of memory
abbrev pub Checks : Status → GivenFiles → Type 0
Checks Done f = AreOfPlay f
Checks (Refused finding) f = AreRefused f finding
Checks (Conf c) f = play_meaning f.inputs ≡ Err (Conf c)
Checks (Capture c) f = play_meaning f.inputs ≡ Err (Capture c)
Checks (Script s) f = play_meaning f.inputs ≡ Err (Script s)
Checks ReadFault f = Unit {0}
Checks NoMemory f = Unit {0}
Checks Usage f = ⊥
Checks WriteFault f = ⊥

abbrev pub status_of : Verdict → Status
status_of Yes = Done
status_of (No finding) = Refused finding

-- the files were decided
abbrev pub IsDecided : Status → Type 0
IsDecided Done = Unit {0}
IsDecided (Refused finding) = Unit {0}
IsDecided _ = ⊥

-- they were, or memory ran out
abbrev pub IsDecidedOrNoMemory : Status → Type 0
IsDecidedOrNoMemory Done = Unit {0}
IsDecidedOrNoMemory (Refused finding) = Unit {0}
IsDecidedOrNoMemory NoMemory = Unit {0}
IsDecidedOrNoMemory _ = ⊥

-- the files were refused
abbrev pub IsRefused : Status → Type 0
IsRefused (Refused finding) = Unit {0}
IsRefused _ = ⊥

-- a file was not read to its end
abbrev pub IsFault : Status → Type 0
IsFault ReadFault = Unit {0}
IsFault NoMemory = Unit {0}
IsFault _ = ⊥

-- ## What is read
-- the roles that a check reads
abbrev pub is_checked : Role → Bool
is_checked role.Conf = true
is_checked role.Capture = true
is_checked role.Script = true
is_checked role.GivenTrace = true
is_checked role.GivenReplies = true
is_checked _ = false

-- Only the five files were read, no other role was prepared, and nothing was written.
pub record OnlyReads (old new : State) : Type 0 where
  pub left : (r : Role) → is_checked r ≡ false → new.left r ≡ old.left r
  pub written : new.written ≡ old.written
  pub attached : (r : Role) → is_checked r ≡ false → new.is_attached r ≡ old.is_attached r
  pub faults : new.faults Writing ≡ old.faults Writing
