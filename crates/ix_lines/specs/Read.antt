-- The line that words are (formats: docs/TRACE.md).
use Rattle.std.specs.Prelude.{ℕ, List, [], ◌∷◌, Option, Some, None, if◌then◌else◌, codes}
use Rattle.std.specs.Str.{bytes_eq}
use Rattle.ix_words.specs.Parts.{parts}
use Rattle.ix_words.specs.Numbers.{number_of, hex8_of}
use Rattle.ix_words.specs.Fields.{◌>>=◌, behind_word, field_of, named_field, at_end, dotted_of, place_of}
use Rattle.ix_lines.specs.declared.line.Line.{Line}
use Rattle.ix_lines.specs.declared.line.Line.TheVariants as lines
use Rattle.ix_lines.specs.declared.types.Fate.{Fate}
use Rattle.ix_lines.specs.declared.types.Fate.TheVariants as fates
use Rattle.ix_lines.specs.declared.types.EntryLine.TheVariants as entries
use Rattle.ix_lines.specs.declared.types.InputKind.TheVariants as inputs
use Rattle.ix_lines.specs.declared.types.RetLine.TheVariants as rets
use Rattle.ix_lines.specs.declared.types.OutputLine.TheVariants as outputs
use Rattle.ix_lines.specs.Names.{state_of, connect_answer_of, kind_of, reply_number_of, refusal_of, connected_of, dead_of}
use Rattle.ix_lines.specs.Words.{max8, max16, max32, max64, last_group}

-- the first of two that gives a line
abbrev pub or_else : Option Line → Option Line → Option Line
or_else (Some l) o = Some l
or_else None o = o

-- ## What became of a frame
unfoldable pub buf_fate : List (List ℕ) → Option Fate
buf_fate ws = do
  b ← field_of (place_of max8 max32) ws
  at_end b.1 (fates.Buf (record { home = record { 0 = b.0.0 }; slot = b.0.1 }))

unfoldable pub amount_of : List (List ℕ) → Option ℕ
amount_of ws = do
  n ← field_of (number_of max32) ws
  at_end n.1 n.0

unfoldable pub drop_fate : List (List ℕ) → Option Fate
drop_fate [] = None
drop_fate (cause ∷ ws) =
    if bytes_eq cause (codes "ring-full") then amount_of ws >>= (λ n. Some (fates.RingFull n))
    else if bytes_eq cause (codes "no-buffer") then amount_of ws >>= (λ n. Some (fates.NoBuffer n))
    else if bytes_eq cause (codes "too-long") then amount_of ws >>= (λ n. Some (fates.TooLong n))
    else None

unfoldable pub fate_of : List (List ℕ) → Option Fate
fate_of [] = None
fate_of (verb ∷ ws) =
    if bytes_eq verb (codes "buf") then buf_fate ws
    else if bytes_eq verb (codes "drop") then drop_fate ws
    else None

-- ## The kinds of line: the words behind the first, or behind the first two
unfoldable pub head_line : List (List ℕ) → Option Line
head_line ws = do
  a1 ← behind_word (codes "2") ws
  cores ← named_field (codes "cores") (number_of max8) a1
  a4 ← behind_word (codes "groups") cores.1
  a5 ← behind_word (codes "512") a4
  batch ← named_field (codes "batch") (number_of max16) a5
  buffers ← named_field (codes "buffers") (number_of max32) batch.1
  at_end buffers.1 (lines.Head (record { cores = cores.0; batch = batch.0; buffers = buffers.0 }))

unfoldable pub open_line : List (List ℕ) → Option Line
open_line ws = do
  a1 ← behind_word (codes "open") ws
  at_end a1 (lines.Open)

unfoldable pub settle_line : List (List ℕ) → Option Line
settle_line ws = do
  wire ← field_of (number_of max64) ws
  at_end wire.1 (lines.Entry wire.0 entries.Settle)

unfoldable pub ring_line : List (List ℕ) → Option Line
ring_line ws = do
  core ← field_of (number_of max64) ws
  posted ← named_field (codes "posted") (number_of max32) core.1
  frames ← named_field (codes "frames") (number_of max32) posted.1
  items ← named_field (codes "items") (number_of max32) frames.1
  at_end items.1 (lines.Ring core.0 (record { posted = posted.0; frames = frames.0; items = items.0 }))

unfoldable pub home_line : List (List ℕ) → Option Line
home_line ws = do
  core ← field_of (number_of max64) ws
  pool ← named_field (codes "pool") (number_of max32) core.1
  posted ← named_field (codes "posted") (number_of max32) pool.1
  desk ← named_field (codes "desk") (number_of max32) posted.1
  held ← named_field (codes "held") (number_of max32) desk.1
  app ← named_field (codes "app") (number_of max32) held.1
  queue ← named_field (codes "queue") (number_of max32) app.1
  at_end queue.1 (lines.Home core.0 (record { pool = pool.0; posted = posted.0; desk = desk.0; held = held.0; app = app.0; queue = queue.0 }))

unfoldable pub answered_line : List (List ℕ) → Option Line
answered_line ws = do
  peer ← field_of (number_of max64) ws
  answer ← field_of connect_answer_of peer.1
  at_end answer.1 (lines.Connect peer.0 answer.0)

unfoldable pub time_line : List (List ℕ) → Option Line
time_line ws = do
  wire ← field_of (number_of max64) ws
  t ← field_of (number_of max32) wire.1
  at_end t.1 (lines.Entry wire.0 (entries.Time t.0))

unfoldable pub tag_line : List (List ℕ) → Option Line
tag_line ws = do
  wire ← field_of (number_of max64) ws
  group ← field_of (number_of last_group) wire.1
  at_end group.1 (lines.Entry wire.0 (entries.Tag (record { 0 = group.0 })))

unfoldable pub move_line : List (List ℕ) → Option Line
move_line ws = do
  wire ← field_of (number_of max64) ws
  group ← field_of (number_of last_group) wire.1
  to ← field_of (number_of max8) group.1
  at_end to.1 (lines.Entry wire.0 (entries.Move (record { 0 = group.0 }) (record { 0 = to.0 })))

unfoldable pub frame_line : List (List ℕ) → Option Line
frame_line ws = do
  wire ← field_of (number_of max64) ws
  rec ← named_field (codes "rec") (number_of max32) wire.1
  at_n ← named_field (codes "at") (number_of max32) rec.1
  group ← named_field (codes "group") (number_of last_group) at_n.1
  ring_n ← named_field (codes "ring") (number_of max8) group.1
  fate ← fate_of ring_n.1
  Some (lines.Entry wire.0 (entries.Frame rec.0 at_n.0 (record { 0 = group.0 }) (record { 0 = ring_n.0 }) fate))

unfoldable pub stray_line : List (List ℕ) → Option Line
stray_line ws = do
  w ← field_of (number_of max32) ws
  core ← named_field (codes "core") (number_of max8) w.1
  kind ← kind_of core.1
  a5 ← behind_word (codes "reply") kind.1
  reply ← field_of reply_number_of a5
  at_end reply.1 (lines.Stray (record { w = record { 0 = w.0 }; core = record { 0 = core.0 }; kind = kind.0; reply = reply.0 }))

unfoldable pub conn_line : List (List ℕ) → Option Line
conn_line ws = do
  group ← field_of (number_of last_group) ws
  order ← field_of (number_of max64) group.1
  remote ← named_field (codes "remote") dotted_of order.1
  remote_port ← field_of (number_of max16) remote.1
  local_port ← named_field (codes "local") (number_of max16) remote_port.1
  iss ← named_field (codes "iss") hex8_of local_port.1
  at_end iss.1 (lines.Conn order.0 (record { group = record { 0 = group.0 }; remote = remote.0; remote_port = remote_port.0; local_port = local_port.0; iss = iss.0 }))

unfoldable pub seg_line : List (List ℕ) → Option Line
seg_line ws = do
  w ← field_of (number_of max32) ws
  core ← named_field (codes "core") (number_of max8) w.1
  at_end core.1 (lines.Input (inputs.Seg (record { 0 = w.0 }) (record { 0 = core.0 })))

unfoldable pub timer_line : List (List ℕ) → Option Line
timer_line ws = do
  t ← field_of (number_of max64) ws
  at_end t.1 (lines.Input (inputs.Timer t.0))

unfoldable pub sendv_line : List (List ℕ) → Option Line
sendv_line ws = do
  n ← field_of (number_of max64) ws
  at_end n.1 (lines.Input (inputs.Sendv n.0))

unfoldable pub recv_done_line : List (List ℕ) → Option Line
recv_done_line ws = do
  n ← field_of (number_of max32) ws
  at_end n.1 (lines.Input (inputs.RecvDone n.0))

unfoldable pub flush_line : List (List ℕ) → Option Line
flush_line ws = do
  w ← field_of (number_of max32) ws
  at_end w.1 (lines.Input (inputs.Flush (record { 0 = w.0 })))

unfoldable pub reply_line : List (List ℕ) → Option Line
reply_line ws = do
  n ← field_of (number_of max32) ws
  at_end n.1 (lines.Output (outputs.Reply n.0))

unfoldable pub done_line : List (List ℕ) → Option Line
done_line ws = do
  n ← named_field (codes "done") (number_of max32) ws
  at_end n.1 (lines.Output (outputs.Ret (rets.Done n.0)))

unfoldable pub refused_line : List (List ℕ) → Option Line
refused_line ws = do
  ret ← field_of refusal_of ws
  at_end ret.1 (lines.Output (outputs.Ret ret.0))

unfoldable pub connected_line : List (List ℕ) → Option Line
connected_line ws = do
  outcome ← field_of connected_of ws
  at_end outcome.1 (lines.Output outcome.0)

unfoldable pub ended_line : List (List ℕ) → Option Line
ended_line ws = do
  a1 ← behind_word (codes "end") ws
  at_end a1 (lines.Output outputs.RecvEnd)

unfoldable pub recv_line : List (List ℕ) → Option Line
recv_line ws = do
  buf ← field_of (place_of max8 max32) ws
  from ← field_of (number_of max16) buf.1
  len ← field_of (number_of max16) from.1
  at_end len.1 (lines.Output (outputs.Recv (record { home = record { 0 = buf.0.0 }; slot = buf.0.1 }) from.0 len.0))

unfoldable pub sent_line : List (List ℕ) → Option Line
sent_line ws = do
  bytes ← field_of (number_of max32) ws
  window ← field_of (number_of max32) bytes.1
  at_end window.1 (lines.Output (outputs.Sent bytes.0 window.0))

unfoldable pub dead_line : List (List ℕ) → Option Line
dead_line ws = do
  outcome ← field_of dead_of ws
  at_end outcome.1 (lines.Output outcome.0)

unfoldable pub left_line : List (List ℕ) → Option Line
left_line ws = do
  state ← field_of state_of ws
  una ← named_field (codes "una") (number_of max64) state.1
  nxt ← named_field (codes "nxt") (number_of max64) una.1
  rcv ← named_field (codes "rcv") (number_of max64) nxt.1
  cwnd ← named_field (codes "cwnd") (number_of max32) rcv.1
  ssthresh ← named_field (codes "ssthresh") (number_of max32) cwnd.1
  at_end ssthresh.1 (lines.Left (record { state = state.0; una = una.0; nxt = nxt.0; rcv = rcv.0; cwnd = cwnd.0; ssthresh = ssthresh.0 }))

unfoldable pub answer_line : List (List ℕ) → Option Line
answer_line ws = do
  wrote ← named_field (codes "wrote") (number_of max64) ws
  taken ← named_field (codes "taken") (number_of max64) wrote.1
  at_end taken.1 (lines.Answer wrote.0 taken.0)

unfoldable pub closed_line : List (List ℕ) → Option Line
closed_line ws = do
  core ← field_of (number_of max64) ws
  pool ← named_field (codes "pool") (number_of max32) core.1
  at_end pool.1 (lines.Closed core.0 pool.0)

unfoldable pub end_line : List (List ℕ) → Option Line
end_line ws = do
  replies ← named_field (codes "replies") (number_of max32) ws
  drops ← named_field (codes "drops") (number_of max32) replies.1
  at_end drops.1 (lines.End replies.0 drops.0)

-- ## Which kind it is: by the first word, and where that doesn't decide by the second
unfoldable pub call_line : List (List ℕ) → Option Line
call_line [] = None
call_line (word ∷ ws) =
    if bytes_eq word (codes "accept") then at_end ws (lines.Input inputs.Accept)
    else if bytes_eq word (codes "sendv") then sendv_line ws
    else if bytes_eq word (codes "recv_done") then recv_done_line ws
    else if bytes_eq word (codes "close") then at_end ws (lines.Input inputs.Close)
    else None

unfoldable pub event_line : List (List ℕ) → Option Line
event_line [] = None
event_line (word ∷ ws) =
    if bytes_eq word (codes "knock") then at_end ws (lines.Output outputs.Knock)
    else if bytes_eq word (codes "connected") then connected_line ws
    else if bytes_eq word (codes "recv") then or_else (ended_line ws) (recv_line ws)
    else if bytes_eq word (codes "sent") then sent_line ws
    else if bytes_eq word (codes "dead") then dead_line ws
    else None

-- a line of a connection's journal
unfoldable pub journal_line : List ℕ → List (List ℕ) → Option Line
journal_line verb ws =
    if bytes_eq verb (codes "seg") then seg_line ws
    else if bytes_eq verb (codes "flush") then flush_line ws
    else if bytes_eq verb (codes "call") then call_line ws
    else if bytes_eq verb (codes "ret") then or_else (done_line ws) (refused_line ws)
    else if bytes_eq verb (codes "event") then event_line ws
    else if bytes_eq verb (codes "reply") then reply_line ws
    else if bytes_eq verb (codes "timer") then timer_line ws
    else None

-- a line of a settle or of an entry
unfoldable pub entry_line : List ℕ → List (List ℕ) → Option Line
entry_line verb ws =
    if bytes_eq verb (codes "frame") then frame_line ws
    else if bytes_eq verb (codes "time") then time_line ws
    else if bytes_eq verb (codes "tag") then tag_line ws
    else if bytes_eq verb (codes "move") then move_line ws
    else if bytes_eq verb (codes "settle") then or_else (open_line ws) (settle_line ws)
    else if bytes_eq verb (codes "ring") then ring_line ws
    else if bytes_eq verb (codes "home") then home_line ws
    else journal_line verb ws

unfoldable pub by_verb : List ℕ → List (List ℕ) → Option Line
by_verb verb ws =
    if bytes_eq verb (codes "head") then head_line ws
    else if bytes_eq verb (codes "connect") then or_else (at_end ws (lines.Input inputs.Connect)) (answered_line ws)
    else if bytes_eq verb (codes "stray") then stray_line ws
    else if bytes_eq verb (codes "conn") then conn_line ws
    else if bytes_eq verb (codes "left") then left_line ws
    else if bytes_eq verb (codes "answer") then answer_line ws
    else if bytes_eq verb (codes "closed") then closed_line ws
    else if bytes_eq verb (codes "end") then end_line ws
    else entry_line verb ws

abbrev pub line_of : List (List ℕ) → Option Line
line_of [] = None
line_of (verb ∷ ws) = by_verb verb ws

-- the line that bytes are, where they are one
abbrev pub line_read : List ℕ → Option Line
line_read bs = line_of (parts 32 bs)
