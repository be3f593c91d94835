-- The replies of a play: the frames that the connections of its groups give, and the answers to their strays.
use Rattle.std.specs.Prelude.{◌≡◌, ℕ, ◌+◌, ◌<◌, ◌^◌, length, List, [], ◌∷◌, ◌++◌, slice_index_or, All, Option, Some, None}
use Rattle.ix_base.specs.declared.frame.Local.{Local}
use Rattle.ix_base.specs.declared.id.WireNo.{WireNo}
use Rattle.ix_groupdef.specs.declared.types.ConnEnd.{ConnEnd}
use Rattle.ix_groupdef.specs.declared.types.GroupRecord.{GroupRecord}
use Rattle.ix_groupdef.specs.declared.types.JournalEntry.{JournalEntry}
use Rattle.ix_groupdef.specs.declared.types.Stray.{Stray}
use Rattle.ix_groupdef.specs.Sent.{CanBeWritten}
use Rattle.ix_groupdef.specs.Whole.{AreWhole}
use Rattle.ix_seg.specs.Written.{frame_bytes}
use Rattle.ix_tcpdef.specs.declared.types.Input.{Input}
use Rattle.ix_tcpdef.specs.declared.types.Input.TheVariants as inputs
use Rattle.ix_tcpdef.specs.declared.types.Output.{Output}
use Rattle.ix_tcpdef.specs.declared.types.Output.TheVariants as outputs
use Rattle.ix_playdef.specs.Placed.{placed}
use Rattle.ix_playdef.specs.declared.order.Phase.{Phase}
use Rattle.ix_playdef.specs.declared.order.Phase.TheVariants.{Connect, Taken, Timer, Flush}
use Rattle.ix_playdef.specs.declared.order.Reply.{Reply}
use Rattle.ix_playdef.specs.declared.order.ReplyKey.{ReplyKey}

-- Of the calls of an application only a connect gives frames.
abbrev pub phase_of : Input → Phase
phase_of (inputs.Segment w seg) = Taken
phase_of inputs.Timer = Timer
phase_of (inputs.Call ask) = Connect
phase_of inputs.Flush = Flush

-- the entry of what an input gives: that of its segment, else the last of its cycle
abbrev pub entry_of : Input → Option WireNo → Option WireNo
entry_of (inputs.Segment w seg) end = Some w
entry_of _ end = end

-- the last entry of the cycle of the input with this place
abbrev pub end_at : List (Option WireNo) → ℕ → Option WireNo
end_at ends at = slice_index_or ends at None

-- ## The order of timers and flushes
-- Where a connection stands among those of its group that give something in one phase of one cycle: by the entry of what they give, the
-- group, the phase and the opening order. Whoever makes a report chooses it.
abbrev pub Places : Type 0
Places = Option WireNo → ℕ → Phase → ℕ → ℕ

-- that of a program which goes by the opening order
abbrev pub by_opening : Places
by_opening entry group phase opening = opening

-- It is free for timers and flushes, where no two connections have one place. Connects, and what is given for a frame, go by the opening order.
pub record IsOrder (places : Places) : Type 0 where
  pub apart : (entry : Option WireNo) (group : ℕ) (phase : Phase) (a b : ℕ) → places entry group phase a ≡ places entry group phase b → a ≡ b
  pub connects : (entry : Option WireNo) (group opening : ℕ) → places entry group Connect opening ≡ opening
  pub taken : (entry : Option WireNo) (group opening : ℕ) → places entry group Taken opening ≡ opening

-- the key of an output with this place, of the connection that opened in this order
abbrev pub key_at : Places → ℕ → ℕ → ℕ → Input → Option WireNo → ℕ → ReplyKey
key_at places group opening at input end output =
    record {
      entry = entry_of input end;
      group = record { 0 = group };
      phase = phase_of input;
      place = places (entry_of input end) group (phase_of input) opening;
      opening = opening;
      input = at;
      output = output;
    }

abbrev pub reply_of : Local → ReplyKey → Output → List Reply
reply_of local key (outputs.Frame seg) = record { key = key; frame = frame_bytes seg.head local seg.body } ∷ []
reply_of local key _ = []

-- ## A connection
abbrev pub input_replies : Places → Local → ℕ → ℕ → List (Option WireNo) → ℕ → JournalEntry → List Reply
input_replies places local group opening ends at e = placed (λ output o. reply_of local (key_at places group opening at e.input (end_at ends at) output) o) 0 e.outputs

abbrev pub conn_replies : Places → Local → ℕ → ℕ → ConnEnd → List Reply
conn_replies places local group opening c = placed (input_replies places local group opening c.ends) 0 c.journal

-- The first of a group has the opening order 1.
abbrev pub opened_replies : Places → Local → ℕ → ℕ → ConnEnd → List Reply
opened_replies places local group at c = conn_replies places local group (at + 1) c

-- ## A stray
abbrev pub stray_key : ℕ → ℕ → WireNo → ReplyKey
stray_key group at w = record { entry = Some w; group = record { 0 = group }; phase = Taken; place = 0; opening = 0; input = at; output = 0 }

abbrev pub answered : ReplyKey → Option (List ℕ) → List Reply
answered key None = []
answered key (Some frame) = record { key = key; frame = frame } ∷ []

abbrev pub stray_reply : ℕ → ℕ → Stray → List Reply
stray_reply group at s = answered (stray_key group at s.w) s.reply

-- ## A group, and all groups
-- what a connection gave can be written
abbrev pub CanAllBeWritten : ConnEnd → Type 0
CanAllBeWritten c = All (λ (e : JournalEntry). All CanBeWritten e.outputs) c.journal

-- a length that a capture's record can tell
abbrev pub IsShort : Reply → Type 0
IsShort r = length r.frame < 2 ^ 32

abbrev pub IsShortIfAny : Option (List ℕ) → Type 0
IsShortIfAny None = Unit {0}
IsShortIfAny (Some frame) = length frame < 2 ^ 32

abbrev pub IsShortlyAnswered : Stray → Type 0
IsShortlyAnswered s = IsShortIfAny s.reply

-- each of a connection's segments has its core, and each of its flushes the last entry of its cycle
abbrev pub IsWhole : ConnEnd → Type 0
IsWhole c = AreWhole c.journal c.ends

-- what a group's connections leave can be told
pub record CanBeTold (r : GroupRecord) : Type 0 where
  pub written : All CanAllBeWritten r.conns
  pub whole : All IsWhole r.conns

pub record FitsGroup (r : GroupRecord) : Type 0 where
  pub told : CanBeTold r
  pub strays : All IsShortlyAnswered r.strays

abbrev pub group_replies : Places → Local → ℕ → GroupRecord → List Reply
group_replies places local group r = placed (stray_reply group) 0 r.strays ++ placed (opened_replies places local group) 0 r.conns

abbrev pub all_replies : Places → Local → List GroupRecord → List Reply
all_replies places local records = placed (group_replies places local) 0 records
