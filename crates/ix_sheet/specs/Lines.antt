-- The lines that tell the connections of flow groups, each part with its buffer and each reply with its number (formats: docs/TRACE.md). A line
-- is None where no line can tell what happened: the answer to a connect among the outputs of a journal, a segment without its core, a flush
-- without the last entry of its cycle, a part of an entry that no buffer holds. What the groups of a play leave has none of these.
use Rattle.std.specs.Prelude.{ℕ, ◌+◌, List, [], ◌∷◌, length, map, Option, Some, None, option_map}
use Rattle.ix_base.specs.declared.id.BufId.{BufId}
use Rattle.ix_base.specs.declared.id.CoreId.{CoreId}
use Rattle.ix_base.specs.declared.id.WireNo.{WireNo}
use Rattle.ix_base.specs.declared.segment.Ret.{Ret}
use Rattle.ix_base.specs.declared.segment.Ret.TheVariants as returns
use Rattle.ix_fits.specs.Journals.{buffer_of}
use Rattle.ix_groupdef.specs.declared.types.ConnEnd.{ConnEnd}
use Rattle.ix_groupdef.specs.declared.types.GroupRecord.{GroupRecord}
use Rattle.ix_groupdef.specs.declared.types.JournalEntry.{JournalEntry}
use Rattle.ix_lines.specs.declared.types.ConnLine.{ConnLine}
use Rattle.ix_lines.specs.declared.types.EntryLine.{EntryLine}
use Rattle.ix_lines.specs.declared.types.InputKind.{InputKind}
use Rattle.ix_lines.specs.declared.types.InputKind.TheVariants as kinds
use Rattle.ix_lines.specs.declared.types.InputLine.{InputLine}
use Rattle.ix_lines.specs.declared.types.OutputLine.{OutputLine}
use Rattle.ix_lines.specs.declared.types.OutputLine.TheVariants as given
use Rattle.ix_lines.specs.declared.types.RetLine.{RetLine}
use Rattle.ix_lines.specs.declared.types.RetLine.TheVariants as rets
use Rattle.ix_playdef.specs.Order.{number_of}
use Rattle.ix_playdef.specs.Placed.{placed}
use Rattle.ix_playdef.specs.Replies.{by_opening, end_at, key_at}
use Rattle.ix_playdef.specs.declared.order.Reply.{Reply}
use Rattle.ix_playdef.specs.declared.order.ReplyKey.{ReplyKey}
use Rattle.ix_tcpdef.specs.declared.types.Ask.{Ask}
use Rattle.ix_tcpdef.specs.declared.types.Ask.TheVariants as asks
use Rattle.ix_tcpdef.specs.declared.types.Input.{Input}
use Rattle.ix_tcpdef.specs.declared.types.Input.TheVariants as inputs
use Rattle.ix_tcpdef.specs.declared.types.Output.{Output}
use Rattle.ix_tcpdef.specs.declared.types.Output.TheVariants as outputs
use Rattle.ix_tcpdef.specs.declared.types.Told.{Told}
use Rattle.ix_tcpdef.specs.declared.types.Told.TheVariants as told

-- ## Lists of lines
-- what each element gives by its place, where the first has this place
abbrev pub by_place : {A B : Type 0} → (ℕ → A → B) → ℕ → List A → List B
by_place f at [] = []
by_place f at (x ∷ xs) = f at x ∷ by_place f (at + 1) xs

-- lines that are all there
abbrev pub present : {A : Type 0} → List A → List (Option A)
present ls = map Some ls

-- the lines, where all are there
abbrev pub all_present : {A : Type 0} → List (Option A) → Option (List A)
all_present [] = Some []
all_present (None ∷ ls) = None
all_present (Some l ∷ ls) = option_map (λ rest. l ∷ rest) (all_present ls)

-- ## What an input gave
abbrev pub ret_line : Ret → Option RetLine
ret_line (returns.Done n) = Some (rets.Done n)
ret_line returns.BadHandle = Some rets.BadHandle
ret_line returns.NotKnocked = Some rets.NotKnocked
ret_line returns.NotOpen = Some rets.NotOpen
ret_line returns.TooMuch = Some rets.TooMuch
ret_line returns.NoNeighbour = None
ret_line returns.NoPort = None
ret_line returns.TableFull = None

-- A part is told with the buffer of the entry that it names.
abbrev pub recv_line : Option BufId → ℕ → ℕ → Option OutputLine
recv_line None from len = None
recv_line (Some b) from len = Some (given.Recv b from len)

abbrev pub told_line : List EntryLine → Told → Option OutputLine
told_line entries told.Knock = Some given.Knock
told_line entries told.ConnectedUp = Some given.ConnectedUp
told_line entries told.ConnectedRefused = Some given.ConnectedRefused
told_line entries told.ConnectedTimeout = Some given.ConnectedTimeout
told_line entries (told.Recv w from len) = recv_line (buffer_of entries w.0) from len
told_line entries told.RecvEnd = Some given.RecvEnd
told_line entries (told.Sent bytes window) = Some (given.Sent bytes window)
told_line entries told.DeadReset = Some given.DeadReset
told_line entries told.DeadTimeout = Some given.DeadTimeout

abbrev pub output_line : List EntryLine → List Reply → ReplyKey → Output → Option OutputLine
output_line entries replies key (outputs.Frame seg) = Some (given.Reply (number_of replies key))
output_line entries replies key (outputs.Told t) = told_line entries t
output_line entries replies key (outputs.Ret r) = option_map given.Ret (ret_line r)

-- ## An input
abbrev pub call_kind : Ask → InputKind
call_kind asks.Connect = kinds.Connect
call_kind asks.Accept = kinds.Accept
call_kind (asks.Sendv bytes) = kinds.Sendv (length bytes)
call_kind (asks.RecvDone bytes) = kinds.RecvDone bytes
call_kind asks.Close = kinds.Close

-- A segment has a core, and a flush the last entry of its cycle.
abbrev pub input_kind : Input → ℕ → Option CoreId → Option WireNo → Option InputKind
input_kind (inputs.Segment w seg) clock core end = option_map (kinds.Seg w) core
input_kind inputs.Timer clock core end = Some (kinds.Timer clock)
input_kind (inputs.Call ask) clock core end = Some (call_kind ask)
input_kind inputs.Flush clock core end = option_map kinds.Flush end

abbrev pub line_with : Option InputKind → Option (List OutputLine) → Option InputLine
line_with None os = None
line_with (Some k) os = option_map (λ ls. record { kind = k; outputs = ls }) os

-- ## A connection, with these lines of its inputs
abbrev pub line_of_conn : ℕ → ConnEnd → List InputLine → ConnLine
line_of_conn group c is =
    record {
      group = record { 0 = group };
      remote = c.flow.remote;
      remote_port = c.flow.remote_port;
      local_port = c.flow.local_port;
      iss = c.iss;
      inputs = is;
      left = c.left;
      wrote = c.wrote;
      taken = c.taken;
    }

module _ (entries : List EntryLine) (replies : List Reply) where
  -- of the connection that opened in this order, the input with this place, whose cycle ends with this entry
  abbrev pub given_lines : ℕ → ℕ → ℕ → Input → Option WireNo → List Output → List (Option OutputLine)
  given_lines group opening at input end os = by_place (λ i o. output_line entries replies (key_at by_opening group opening at input end i) o) 0 os

  abbrev pub input_line : ℕ → ℕ → List (Option WireNo) → ℕ → JournalEntry → Option InputLine
  input_line group opening ends at e =
      line_with (input_kind e.input e.clock e.core (end_at ends at)) (all_present (given_lines group opening at e.input (end_at ends at) e.outputs))

  -- ## A connection, by its place among those of its group
  abbrev pub input_lines : ℕ → ℕ → ConnEnd → List (Option InputLine)
  input_lines group order c = by_place (input_line group (order + 1) c.ends) 0 c.journal

  abbrev pub conn_line : ℕ → ℕ → ConnEnd → Option ConnLine
  conn_line group order c = option_map (line_of_conn group c) (all_present (input_lines group order c))

  -- ## The connections of a group, in the order of opening; and of all groups, group by group
  abbrev pub group_conns : ℕ → GroupRecord → List (Option ConnLine)
  group_conns group r = by_place (conn_line group) 0 r.conns

  abbrev pub all_conns : List GroupRecord → List (Option ConnLine)
  all_conns records = placed group_conns 0 records
