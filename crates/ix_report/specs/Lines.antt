-- The lines of a report's short text: no settles, entries, connects and pools, and no buffers (docs/TRACE.md). A line is None where no
-- line can tell what happened: for the answer to a connect among the outputs of a journal, a segment without its core, and a flush without
-- the last entry of its cycle. What the groups of a play leave has none of these.
use Rattle.std.specs.Prelude.{ℕ, ◌+◌, List, [], ◌∷◌, ◌++◌, length, map, Option, Some, None, option_map}
use Rattle.ix_base.specs.declared.id.BufId.{BufId}
use Rattle.ix_base.specs.declared.id.CoreId.{CoreId}
use Rattle.ix_base.specs.declared.id.WireNo.{WireNo}
use Rattle.ix_base.specs.declared.segment.Ret.{Ret}
use Rattle.ix_base.specs.declared.segment.Ret.TheVariants as returns
use Rattle.ix_groupdef.specs.declared.types.ConnEnd.{ConnEnd}
use Rattle.ix_groupdef.specs.declared.types.GroupRecord.{GroupRecord}
use Rattle.ix_groupdef.specs.declared.types.JournalEntry.{JournalEntry}
use Rattle.ix_groupdef.specs.declared.types.Stray.{Stray}
use Rattle.ix_lines.specs.Words.{text_of}
use Rattle.ix_lines.specs.declared.line.Line.{Line}
use Rattle.ix_lines.specs.declared.line.Line.TheVariants as lines
use Rattle.ix_lines.specs.declared.types.InputKind.{InputKind}
use Rattle.ix_lines.specs.declared.types.InputKind.TheVariants as kinds
use Rattle.ix_lines.specs.declared.types.Opening.{Opening}
use Rattle.ix_lines.specs.declared.types.OutputLine.{OutputLine}
use Rattle.ix_lines.specs.declared.types.OutputLine.TheVariants as given
use Rattle.ix_lines.specs.declared.types.RetLine.{RetLine}
use Rattle.ix_lines.specs.declared.types.RetLine.TheVariants as rets
use Rattle.ix_lines.specs.declared.types.StrayLine.{StrayLine}
use Rattle.ix_playdef.specs.Order.{number_of}
use Rattle.ix_playdef.specs.Placed.{placed}
use Rattle.ix_playdef.specs.Replies.{Places, end_at, key_at, stray_key}
use Rattle.ix_playdef.specs.declared.order.Reply.{Reply}
use Rattle.ix_playdef.specs.declared.order.ReplyKey.{ReplyKey}
use Rattle.ix_tcpdef.specs.declared.types.Ask.{Ask}
use Rattle.ix_tcpdef.specs.declared.types.Ask.TheVariants as asks
use Rattle.ix_tcpdef.specs.declared.types.Input.{Input}
use Rattle.ix_tcpdef.specs.declared.types.Input.TheVariants as inputs
use Rattle.ix_tcpdef.specs.declared.types.Output.{Output}
use Rattle.ix_tcpdef.specs.declared.types.Output.TheVariants as outputs
use Rattle.ix_tcpdef.specs.declared.types.Told.{Told}
use Rattle.ix_tcpdef.specs.declared.types.Told.TheVariants as told
use Rattle.ix_report.specs.declared.report.Report.{Report}
use Rattle.ix_report.specs.declared.text.TheConstants.{BEGINNING}

-- ## What an input gave
-- The answers to a connect are none of a journal's.
abbrev pub ret_line : Ret → Option RetLine
ret_line (returns.Done n) = Some (rets.Done n)
ret_line returns.BadHandle = Some rets.BadHandle
ret_line returns.NotKnocked = Some rets.NotKnocked
ret_line returns.NotOpen = Some rets.NotOpen
ret_line returns.TooMuch = Some rets.TooMuch
ret_line returns.NoNeighbour = None
ret_line returns.NoPort = None
ret_line returns.TableFull = None

abbrev pub no_buffer : BufId
no_buffer = record { home = record { 0 = 0 }; slot = 0 }

abbrev pub told_line : Told → OutputLine
told_line told.Knock = given.Knock
told_line told.ConnectedUp = given.ConnectedUp
told_line told.ConnectedRefused = given.ConnectedRefused
told_line told.ConnectedTimeout = given.ConnectedTimeout
told_line (told.Recv w from len) = given.Recv no_buffer from len
told_line told.RecvEnd = given.RecvEnd
told_line (told.Sent bytes window) = given.Sent bytes window
told_line told.DeadReset = given.DeadReset
told_line told.DeadTimeout = given.DeadTimeout

abbrev pub output_line : List Reply → ReplyKey → Output → Option OutputLine
output_line replies key (outputs.Frame seg) = Some (given.Reply (number_of replies key))
output_line replies key (outputs.Told t) = Some (told_line t)
output_line replies key (outputs.Ret r) = option_map given.Ret (ret_line r)

-- ## An input
abbrev pub call_kind : Ask → InputKind
call_kind asks.Connect = kinds.Connect
call_kind asks.Accept = kinds.Accept
call_kind (asks.Sendv bytes) = kinds.Sendv (length bytes)
call_kind (asks.RecvDone bytes) = kinds.RecvDone bytes
call_kind asks.Close = kinds.Close

-- A segment has a core, and a flush the last entry of its cycle.
abbrev pub input_kind : Input → ℕ → Option CoreId → Option WireNo → Option InputKind
input_kind (inputs.Segment w seg) clock core end = option_map (kinds.Seg w) core
input_kind inputs.Timer clock core end = Some (kinds.Timer clock)
input_kind (inputs.Call ask) clock core end = Some (call_kind ask)
input_kind inputs.Flush clock core end = option_map kinds.Flush end

abbrev pub input_line : Input → ℕ → Option CoreId → Option WireNo → Option Line
input_line input clock core end = option_map lines.Input (input_kind input clock core end)

abbrev pub given_line : List Reply → ReplyKey → Output → Option Line
given_line replies key output = option_map lines.Output (output_line replies key output)

-- with what it gave; at: its place in the journal
abbrev pub input_lines : Places → List Reply → ℕ → ℕ → List (Option WireNo) → ℕ → JournalEntry → List (Option Line)
input_lines places replies group opening ends at e =
    input_line e.input e.clock e.core (end_at ends at)
    ∷ placed (λ output o. given_line replies (key_at places group opening at e.input (end_at ends at) output) o ∷ []) 0 e.outputs

-- ## A connection, by its place among those of its group
abbrev pub opening_of : ℕ → ConnEnd → Opening
opening_of group c =
    record { group = record { 0 = group }; remote = c.flow.remote; remote_port = c.flow.remote_port; local_port = c.flow.local_port; iss = c.iss }

abbrev pub conn_lines : Places → List Reply → ℕ → ℕ → ConnEnd → List (Option Line)
conn_lines places replies group order c =
    (Some (lines.Conn order (opening_of group c)) ∷ [])
    ++ (placed (input_lines places replies group (order + 1) c.ends) 0 c.journal ++ Some (lines.Left c.left) ∷ Some (lines.Answer c.wrote c.taken) ∷ [])

abbrev pub group_lines : Places → List Reply → ℕ → GroupRecord → List (Option Line)
group_lines places replies group r = placed (conn_lines places replies group) 0 r.conns

-- ## Strays
abbrev pub reply_number : List Reply → ReplyKey → Option (List ℕ) → Option ℕ
reply_number replies key None = None
reply_number replies key (Some frame) = Some (number_of replies key)

abbrev pub stray_line : List Reply → ℕ → ℕ → Stray → StrayLine
stray_line replies group at s =
    record { w = s.w; core = s.core; kind = s.kind; reply = reply_number replies (stray_key group at s.w) s.reply }

abbrev pub one_stray : List Reply → ℕ → ℕ → Stray → List StrayLine
one_stray replies group at s = stray_line replies group at s ∷ []

abbrev pub group_strays : List Reply → ℕ → GroupRecord → List StrayLine
group_strays replies group r = placed (one_stray replies group) 0 r.strays

-- those of all groups, group by group
abbrev pub all_strays : List Reply → List GroupRecord → List StrayLine
all_strays replies records = placed (group_strays replies) 0 records

abbrev pub wire_of : StrayLine → ℕ
wire_of s = s.w.0

-- ## The report
-- these lines, all of which are there
abbrev pub present : List Line → List (Option Line)
present ls = map Some ls

abbrev pub lines_of : Places → Report → List (Option Line)
lines_of places r =
    present (map lines.Stray r.strays) ++ (placed (group_lines places r.replies) 0 r.groups ++ Some (lines.End (length r.replies) r.drops) ∷ [])

-- the lines, where all are there
abbrev pub all_present : List (Option Line) → Option (List Line)
all_present [] = Some []
all_present (None ∷ ls) = None
all_present (Some l ∷ ls) = option_map (λ rest. l ∷ rest) (all_present ls)

-- the text of a report all of whose lines are there
unfoldable pub short_text : Places → Report → Option (List ℕ)
short_text places r = option_map (λ ls. BEGINNING.now ++ text_of ls) (all_present (lines_of places r))
