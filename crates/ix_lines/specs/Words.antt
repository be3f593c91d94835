-- The words of a line, and its text (formats: docs/TRACE.md).
use Rattle.std.specs.Prelude.{ℕ, ◌-◌, ◌≤◌, ◌<◌, ◌^◌, List, [], ◌∷◌, ◌++◌, Option, Some, None, codes}
use Rattle.std.specs.List.{flat_map}
use Rattle.std.specs.Fmt.{decimal}
use Rattle.ix_words.specs.Parts.{join}
use Rattle.ix_words.specs.Numbers.{hex8}
use Rattle.ix_words.specs.Fields.{dotted, place}
use Rattle.ix_base.specs.declared.id.BufId.{BufId}
use Rattle.ix_base.specs.declared.id.TheConstants.{FLOW_GROUPS}
use Rattle.ix_tcpdef.specs.declared.types.Left.{Left}
use Rattle.ix_lines.specs.declared.line.Line.{Line}
use Rattle.ix_lines.specs.declared.line.Line.TheVariants as lines
use Rattle.ix_lines.specs.declared.types.Fate.{Fate}
use Rattle.ix_lines.specs.declared.types.Fate.TheVariants as fates
use Rattle.ix_lines.specs.declared.types.EntryLine.{EntryLine}
use Rattle.ix_lines.specs.declared.types.EntryLine.TheVariants as entries
use Rattle.ix_lines.specs.declared.types.StrayLine.{StrayLine}
use Rattle.ix_lines.specs.declared.types.InputKind.{InputKind}
use Rattle.ix_lines.specs.declared.types.InputKind.TheVariants as inputs
use Rattle.ix_lines.specs.declared.types.RetLine.{RetLine}
use Rattle.ix_lines.specs.declared.types.RetLine.TheVariants as rets
use Rattle.ix_lines.specs.declared.types.OutputLine.{OutputLine}
use Rattle.ix_lines.specs.declared.types.OutputLine.TheVariants as outputs
use Rattle.ix_lines.specs.Names.{state_word, connect_word, kind_words, reply_word}

-- a buffer: its home and its slot there
abbrev pub buf_word : BufId → List ℕ
buf_word b = place (b.home.0, b.slot)

abbrev pub fate_words : Fate → List (List ℕ)
fate_words (fates.Buf b) = codes "buf" ∷ buf_word b ∷ []
fate_words (fates.RingFull n) = codes "drop" ∷ codes "ring-full" ∷ decimal n ∷ []
fate_words (fates.NoBuffer n) = codes "drop" ∷ codes "no-buffer" ∷ decimal n ∷ []
fate_words (fates.TooLong n) = codes "drop" ∷ codes "too-long" ∷ decimal n ∷ []

abbrev pub entry_words : ℕ → EntryLine → List (List ℕ)
entry_words w (entries.Frame rec at group ring fate) =
    codes "frame" ∷ decimal w ∷ codes "rec" ∷ decimal rec ∷ codes "at" ∷ decimal at ∷ codes "group" ∷ decimal group.0 ∷ codes "ring" ∷ decimal ring.0
    ∷ fate_words fate
entry_words w (entries.Time t) = codes "time" ∷ decimal w ∷ decimal t ∷ []
entry_words w (entries.Tag group) = codes "tag" ∷ decimal w ∷ decimal group.0 ∷ []
entry_words w (entries.Move group to) = codes "move" ∷ decimal w ∷ decimal group.0 ∷ decimal to.0 ∷ []
entry_words w entries.Settle = codes "settle" ∷ decimal w ∷ []

abbrev pub input_words : InputKind → List (List ℕ)
input_words inputs.Connect = codes "connect" ∷ []
input_words (inputs.Seg w core) = codes "seg" ∷ decimal w.0 ∷ codes "core" ∷ decimal core.0 ∷ []
input_words (inputs.Timer t) = codes "timer" ∷ decimal t ∷ []
input_words inputs.Accept = codes "call" ∷ codes "accept" ∷ []
input_words (inputs.Sendv n) = codes "call" ∷ codes "sendv" ∷ decimal n ∷ []
input_words (inputs.RecvDone n) = codes "call" ∷ codes "recv_done" ∷ decimal n ∷ []
input_words inputs.Close = codes "call" ∷ codes "close" ∷ []
input_words (inputs.Flush w) = codes "flush" ∷ decimal w.0 ∷ []

abbrev pub ret_words : RetLine → List (List ℕ)
ret_words (rets.Done n) = codes "ret" ∷ codes "done" ∷ decimal n ∷ []
ret_words rets.BadHandle = codes "ret" ∷ codes "bad-handle" ∷ []
ret_words rets.NotKnocked = codes "ret" ∷ codes "not-knocked" ∷ []
ret_words rets.NotOpen = codes "ret" ∷ codes "not-open" ∷ []
ret_words rets.TooMuch = codes "ret" ∷ codes "too-much" ∷ []

abbrev pub output_words : OutputLine → List (List ℕ)
output_words (outputs.Reply n) = codes "reply" ∷ decimal n ∷ []
output_words (outputs.Ret r) = ret_words r
output_words outputs.Knock = codes "event" ∷ codes "knock" ∷ []
output_words outputs.ConnectedUp = codes "event" ∷ codes "connected" ∷ codes "up" ∷ []
output_words outputs.ConnectedRefused = codes "event" ∷ codes "connected" ∷ codes "refused" ∷ []
output_words outputs.ConnectedTimeout = codes "event" ∷ codes "connected" ∷ codes "timeout" ∷ []
output_words (outputs.Recv buf from len) = codes "event" ∷ codes "recv" ∷ buf_word buf ∷ decimal from ∷ decimal len ∷ []
output_words outputs.RecvEnd = codes "event" ∷ codes "recv" ∷ codes "end" ∷ []
output_words (outputs.Sent bytes window) = codes "event" ∷ codes "sent" ∷ decimal bytes ∷ decimal window ∷ []
output_words outputs.DeadReset = codes "event" ∷ codes "dead" ∷ codes "reset" ∷ []
output_words outputs.DeadTimeout = codes "event" ∷ codes "dead" ∷ codes "timeout" ∷ []

abbrev pub stray_words : StrayLine → List (List ℕ)
stray_words s = codes "stray" ∷ decimal s.w.0 ∷ codes "core" ∷ decimal s.core.0 ∷ kind_words s.kind ++ codes "reply" ∷ reply_word s.reply ∷ []

abbrev pub left_words_of : Left → List (List ℕ)
left_words_of l =
    codes "left" ∷ state_word l.state ∷ codes "una" ∷ decimal l.una ∷ codes "nxt" ∷ decimal l.nxt ∷ codes "rcv" ∷ decimal l.rcv ∷ codes "cwnd" ∷ decimal l.cwnd
    ∷ codes "ssthresh" ∷ decimal l.ssthresh ∷ []

abbrev pub words : Line → List (List ℕ)
words (lines.Head h) =
    codes "head" ∷ codes "2" ∷ codes "cores" ∷ decimal h.cores ∷ codes "groups" ∷ codes "512" ∷ codes "batch" ∷ decimal h.batch ∷ codes "buffers"
    ∷ decimal h.buffers ∷ []
words lines.Open = codes "settle" ∷ codes "open" ∷ []
words (lines.Ring core r) =
    codes "ring" ∷ decimal core ∷ codes "posted" ∷ decimal r.posted ∷ codes "frames" ∷ decimal r.frames ∷ codes "items" ∷ decimal r.items ∷ []
words (lines.Home core h) =
    codes "home" ∷ decimal core ∷ codes "pool" ∷ decimal h.pool ∷ codes "posted" ∷ decimal h.posted ∷ codes "desk" ∷ decimal h.desk ∷ codes "held"
    ∷ decimal h.held ∷ codes "app" ∷ decimal h.app ∷ codes "queue" ∷ decimal h.queue ∷ []
words (lines.Connect peer answer) = codes "connect" ∷ decimal peer ∷ connect_word answer ∷ []
words (lines.Entry w e) = entry_words w e
words (lines.Stray s) = stray_words s
words (lines.Conn order o) =
    codes "conn" ∷ decimal o.group.0 ∷ decimal order ∷ codes "remote" ∷ dotted o.remote ∷ decimal o.remote_port ∷ codes "local" ∷ decimal o.local_port
    ∷ codes "iss" ∷ hex8 o.iss ∷ []
words (lines.Input k) = input_words k
words (lines.Output o) = output_words o
words (lines.Left l) = left_words_of l
words (lines.Answer wrote taken) = codes "answer" ∷ codes "wrote" ∷ decimal wrote ∷ codes "taken" ∷ decimal taken ∷ []
words (lines.Closed core pool) = codes "closed" ∷ decimal core ∷ codes "pool" ∷ decimal pool ∷ []
words (lines.End replies drops) = codes "end" ∷ codes "replies" ∷ decimal replies ∷ codes "drops" ∷ decimal drops ∷ []

-- a line without its line feed
unfoldable pub line_text : Line → List ℕ
line_text l = join 32 (words l)

-- lines, each with its line feed
abbrev pub text_of : List Line → List ℕ
text_of ls = flat_map (λ l. line_text l ++ 10 ∷ []) ls

-- ## Ranges: each number fits its type, and a group is one of 512

abbrev pub max8 : ℕ
max8 = 255

abbrev pub max16 : ℕ
max16 = 65535

abbrev pub max32 : ℕ
max32 = 4294967295

abbrev pub max64 : ℕ
max64 = 18446744073709551615

abbrev pub last_group : ℕ
last_group = FLOW_GROUPS - 1

abbrev pub FitsBuf : BufId → Type 0
FitsBuf b = (b.home.0 ≤ max8) × (b.slot ≤ max32)

abbrev pub FitsFate : Fate → Type 0
FitsFate (fates.Buf b) = FitsBuf b
FitsFate (fates.RingFull n) = n ≤ max32
FitsFate (fates.NoBuffer n) = n ≤ max32
FitsFate (fates.TooLong n) = n ≤ max32

abbrev pub FitsEntry : EntryLine → Type 0
FitsEntry (entries.Frame rec at group ring fate) = (rec ≤ max32) × (at ≤ max32) × (group.0 ≤ last_group) × (ring.0 ≤ max8) × FitsFate fate
FitsEntry (entries.Time t) = t ≤ max32
FitsEntry (entries.Tag group) = group.0 ≤ last_group
FitsEntry (entries.Move group to) = (group.0 ≤ last_group) × (to.0 ≤ max8)
FitsEntry entries.Settle = Unit {0}

abbrev pub FitsInput : InputKind → Type 0
FitsInput (inputs.Seg w core) = (w.0 ≤ max32) × (core.0 ≤ max8)
FitsInput (inputs.Timer t) = t ≤ max64
FitsInput (inputs.Sendv n) = n ≤ max64
FitsInput (inputs.RecvDone n) = n ≤ max32
FitsInput (inputs.Flush w) = w.0 ≤ max32
FitsInput inputs.Connect = Unit {0}
FitsInput inputs.Accept = Unit {0}
FitsInput inputs.Close = Unit {0}

abbrev pub FitsRet : RetLine → Type 0
FitsRet (rets.Done n) = n ≤ max32
FitsRet rets.BadHandle = Unit {0}
FitsRet rets.NotKnocked = Unit {0}
FitsRet rets.NotOpen = Unit {0}
FitsRet rets.TooMuch = Unit {0}

abbrev pub FitsOutput : OutputLine → Type 0
FitsOutput (outputs.Reply n) = n ≤ max32
FitsOutput (outputs.Ret r) = FitsRet r
FitsOutput (outputs.Recv buf from len) = FitsBuf buf × (from ≤ max16) × (len ≤ max16)
FitsOutput (outputs.Sent bytes window) = (bytes ≤ max32) × (window ≤ max32)
FitsOutput outputs.Knock = Unit {0}
FitsOutput outputs.ConnectedUp = Unit {0}
FitsOutput outputs.ConnectedRefused = Unit {0}
FitsOutput outputs.ConnectedTimeout = Unit {0}
FitsOutput outputs.RecvEnd = Unit {0}
FitsOutput outputs.DeadReset = Unit {0}
FitsOutput outputs.DeadTimeout = Unit {0}

abbrev pub FitsReply : Option ℕ → Type 0
FitsReply None = Unit {0}
FitsReply (Some n) = n ≤ max32

abbrev pub Fits : Line → Type 0
Fits (lines.Head h) = (h.cores ≤ max8) × (h.batch ≤ max16) × (h.buffers ≤ max32)
Fits lines.Open = Unit {0}
Fits (lines.Ring core r) = (core ≤ max64) × (r.posted ≤ max32) × (r.frames ≤ max32) × (r.items ≤ max32)
Fits (lines.Home core h) =
    (core ≤ max64) × (h.pool ≤ max32) × (h.posted ≤ max32) × (h.desk ≤ max32) × (h.held ≤ max32) × (h.app ≤ max32) × (h.queue ≤ max32)
Fits (lines.Connect peer answer) = peer ≤ max64
Fits (lines.Entry w e) = (w ≤ max64) × FitsEntry e
Fits (lines.Stray s) = (s.w.0 ≤ max32) × (s.core.0 ≤ max8) × FitsReply s.reply
Fits (lines.Conn order o) =
    (o.group.0 ≤ last_group) × (order ≤ max64) × (o.remote < 2 ^ 32) × (o.remote_port ≤ max16) × (o.local_port ≤ max16) × (o.iss < 2 ^ 32)
Fits (lines.Input k) = FitsInput k
Fits (lines.Output o) = FitsOutput o
Fits (lines.Left l) = (l.una ≤ max64) × (l.nxt ≤ max64) × (l.rcv ≤ max64) × (l.cwnd ≤ max32) × (l.ssthresh ≤ max32)
Fits (lines.Answer wrote taken) = (wrote ≤ max64) × (taken ≤ max64)
Fits (lines.Closed core pool) = (core ≤ max64) × (pool ≤ max32)
Fits (lines.End replies drops) = (replies ≤ max32) × (drops ≤ max32)
