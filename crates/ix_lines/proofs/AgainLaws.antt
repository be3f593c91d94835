-- A line that is written is read.
use Rattle.std.proofs.Common.{◌≡◌, ℕ, ◌≤◌, ◌<◌, ◌^◌, List, [], ◌∷◌, ◌++◌, refl, ap, sym, ◌∙◌, arith, Bool, true, false, Option, Some, None}
use Rattle.std.specs.Prelude.{if◌then◌else◌, codes}
use Rattle.std.specs.Str.{bytes_eq}
use Rattle.std.specs.Fmt.{decimal}
use Rattle.std.proofs.lemmas.Slice.Eq.{bytes_eq-Decides}
use Rattle.ix_words.specs.Parts.{parts, join, lacks, all_lack}
use Rattle.ix_words.specs.Numbers.{number_of}
use Rattle.ix_words.specs.Fields.{◌>>=◌, at_end, two_of, place_of}
use Rattle.ix_words.specs.PartLaws.{parts-join, is_plain, all_plain, all_lack-plain, lacks-join}
use Rattle.ix_words.specs.NumberLaws.{number_of-again, hex8_of-again, plain-decimal}
use Rattle.ix_words.specs.FieldLaws.{dotted_of-again, place_of-again, plain-dotted, plain-place, plain-hex8}
use Rattle.ix_base.specs.declared.id.BufId.{BufId}
use Rattle.ix_base.specs.declared.frame.Disposition.{Disposition}
use Rattle.ix_base.specs.declared.frame.Disposition.TheVariants as kinds
use Rattle.ix_tcpdef.specs.declared.types.State.{State}
use Rattle.ix_tcpdef.specs.declared.types.State.TheVariants as states
use Rattle.ix_lines.specs.declared.line.Line.{Line}
use Rattle.ix_lines.specs.declared.line.Line.TheVariants as lines
use Rattle.ix_lines.specs.declared.types.Fate.{Fate}
use Rattle.ix_lines.specs.declared.types.Fate.TheVariants as fates
use Rattle.ix_lines.specs.declared.types.EntryLine.{EntryLine}
use Rattle.ix_lines.specs.declared.types.EntryLine.TheVariants as entries
use Rattle.ix_lines.specs.declared.types.InputKind.{InputKind}
use Rattle.ix_lines.specs.declared.types.InputKind.TheVariants as inputs
use Rattle.ix_lines.specs.declared.types.RetLine.TheVariants as rets
use Rattle.ix_lines.specs.declared.types.OutputLine.{OutputLine}
use Rattle.ix_lines.specs.declared.types.OutputLine.TheVariants as outputs
use Rattle.ix_lines.specs.declared.types.ConnectLine.{ConnectLine}
use Rattle.ix_lines.specs.declared.types.ConnectLine.TheVariants as connects
use Rattle.ix_lines.specs.Names.{state_word, connect_word, kind_words, reply_word, refusal_of, connected_of, dead_of}
use Rattle.ix_lines.specs.Words.{words, line_text, buf_word, fate_words, entry_words, input_words, output_words, Fits, FitsBuf, FitsFate, FitsEntry, FitsInput, FitsOutput, FitsReply, max8, max16, max32, max64, last_group}
use Rattle.ix_lines.specs.Read.{buf_fate, amount_of, drop_fate, fate_of, head_line, open_line, settle_line, ring_line, home_line, answered_line, time_line, tag_line, move_line, frame_line, stray_line, conn_line, seg_line, timer_line, sendv_line, recv_done_line, flush_line, reply_line, done_line, refused_line, connected_line, ended_line, recv_line, sent_line, dead_line, left_line, answer_line, closed_line, end_line, call_line, event_line, journal_line, entry_line, by_verb, line_of, line_read}
use Rattle.ix_lines.proofs.NameLaws.{state_of-again, connect_answer_of-again, kind_of-again, reply_number_of-again}

n8 : (n : ℕ) → n ≤ max8 → number_of max8 (decimal n) ≡ Some n
n8 n h = number_of-again max8 n (omega arith) h

n16 : (n : ℕ) → n ≤ max16 → number_of max16 (decimal n) ≡ Some n
n16 n h = number_of-again max16 n (omega arith) h

n32 : (n : ℕ) → n ≤ max32 → number_of max32 (decimal n) ≡ Some n
n32 n h = number_of-again max32 n (omega arith) h

n64 : (n : ℕ) → n ≤ max64 → number_of max64 (decimal n) ≡ Some n
n64 n h = number_of-again max64 n (omega arith) h

ng : (n : ℕ) → n ≤ last_group → number_of last_group (decimal n) ≡ Some n
ng n h = number_of-again last_group n (omega arith) h

buf_again : (b : BufId) → FitsBuf b → place_of max8 max32 (buf_word b) ≡ Some (b.home.0, b.slot)
buf_again b h = place_of-again max8 max32 b.home.0 b.slot (omega arith) (omega arith) h.0 h.1

-- a number isn't the word `open`
not_a_number : number_of max64 (codes "open") ≡ None
unfolding number_of
not_a_number = refl

not_open : (w : ℕ) → w ≤ max64 → open_line (decimal w ∷ []) ≡ None
unfolding open_line
not_open w h = by_test (bytes_eq (decimal w) (codes "open")) refl where
  by_test : (t : Bool) → bytes_eq (decimal w) (codes "open") ≡ t → (if t then Some [] else None) >>= (λ a. at_end a lines.Open) ≡ None
  by_test false e = refl
  by_test true e =
      let s : decimal w ≡ codes "open" = (bytes_eq-Decides (decimal w) (codes "open")).0 e in
      let n : number_of max64 (codes "open") ≡ Some w = ap (number_of max64) (sym s) ∙ n64 w h in
      let z : number_of max64 (codes "open") ≡ None = not_a_number in
      absurd (cc (n, z))

-- a buffer isn't the word `end`
not_a_place : place_of max8 max32 (codes "end") ≡ None
unfolding two_of number_of
not_a_place = refl

not_ended : (b : BufId) (ws : List (List ℕ)) → FitsBuf b → ended_line (buf_word b ∷ ws) ≡ None
unfolding ended_line
not_ended b ws h = by_test (bytes_eq (buf_word b) (codes "end")) refl where
  by_test : (t : Bool) → bytes_eq (buf_word b) (codes "end") ≡ t → (if t then Some ws else None) >>= (λ a. at_end a (lines.Output outputs.RecvEnd)) ≡ None
  by_test false e = refl
  by_test true e =
      let s : buf_word b ≡ codes "end" = (bytes_eq-Decides (buf_word b) (codes "end")).0 e in
      let n : place_of max8 max32 (codes "end") ≡ Some (b.home.0, b.slot) = ap (place_of max8 max32) (sym s) ∙ buf_again b h in
      let z : place_of max8 max32 (codes "end") ≡ None = not_a_place in
      absurd (cc (n, z))

fate_again : (t : Fate) → FitsFate t → fate_of (fate_words t) ≡ Some t
unfolding fate_of buf_fate drop_fate amount_of
fate_again (fates.Buf b) h = rw (buf_again b h) refl
fate_again (fates.RingFull n) h = rw (n32 n h) refl
fate_again (fates.NoBuffer n) h = rw (n32 n h) refl
fate_again (fates.TooLong n) h = rw (n32 n h) refl

entry_again : (w : ℕ) (e : EntryLine) → w ≤ max64 → FitsEntry e → line_of (entry_words w e) ≡ Some (lines.Entry w e)
unfolding by_verb entry_line frame_line time_line tag_line move_line settle_line
entry_again w (entries.Frame rec at group ring fate) h k =
    rw (n64 w h, n32 rec k.0, n32 at k.1, ng group.0 k.2, n8 ring.0 k.3, fate_again fate k.4) refl
entry_again w (entries.Time t) h k = rw (n64 w h, n32 t k) refl
entry_again w (entries.Tag group) h k = rw (n64 w h, ng group.0 k) refl
entry_again w (entries.Move group to) h k = rw (n64 w h, ng group.0 k.0, n8 to.0 k.1) refl
entry_again w entries.Settle h k = rw (not_open w h, n64 w h) refl

input_again : (k : InputKind) → FitsInput k → line_of (input_words k) ≡ Some (lines.Input k)
unfolding by_verb entry_line journal_line seg_line timer_line call_line sendv_line recv_done_line flush_line
input_again inputs.Connect h = refl
input_again (inputs.Seg w core) h = rw (n32 w.0 h.0, n8 core.0 h.1) refl
input_again (inputs.Timer t) h = rw (n64 t h) refl
input_again inputs.Accept h = refl
input_again (inputs.Sendv n) h = rw (n64 n h) refl
input_again (inputs.RecvDone n) h = rw (n32 n h) refl
input_again inputs.Close h = refl
input_again (inputs.Flush w) h = rw (n32 w.0 h) refl

output_again : (o : OutputLine) → FitsOutput o → line_of (output_words o) ≡ Some (lines.Output o)
unfolding by_verb entry_line journal_line reply_line done_line refused_line event_line connected_line recv_line ended_line sent_line dead_line refusal_of connected_of dead_of
output_again (outputs.Reply n) h = rw (n32 n h) refl
output_again (outputs.Ret (rets.Done n)) h = rw (n32 n h) refl
output_again (outputs.Ret rets.BadHandle) h = refl
output_again (outputs.Ret rets.NotKnocked) h = refl
output_again (outputs.Ret rets.NotOpen) h = refl
output_again (outputs.Ret rets.TooMuch) h = refl
output_again outputs.Knock h = refl
output_again outputs.ConnectedUp h = refl
output_again outputs.ConnectedRefused h = refl
output_again outputs.ConnectedTimeout h = refl
output_again (outputs.Recv buf from len) h =
    rw (not_ended buf (decimal from ∷ decimal len ∷ []) h.0, buf_again buf h.0, n16 from h.1, n16 len h.2) refl
output_again outputs.RecvEnd h = refl
output_again (outputs.Sent bytes window) h = rw (n32 bytes h.0, n32 window h.1) refl
output_again outputs.DeadReset h = refl
output_again outputs.DeadTimeout h = refl

pub line_of-again : (l : Line) → Fits l → line_of (words l) ≡ Some l
unfolding by_verb head_line answered_line stray_line conn_line left_line answer_line closed_line end_line entry_line open_line ring_line home_line
line_of-again (lines.Head h) k = rw (n8 h.cores k.0, n16 h.batch k.1, n32 h.buffers k.2) refl
line_of-again lines.Open k = refl
line_of-again (lines.Ring core r) k = rw (n64 core k.0, n32 r.posted k.1, n32 r.frames k.2, n32 r.items k.3) refl
line_of-again (lines.Home core h) k = rw (n64 core k.0, n32 h.pool k.1, n32 h.posted k.2, n32 h.desk k.3, n32 h.held k.4, n32 h.app k.5, n32 h.queue k.6) refl
line_of-again (lines.Connect peer answer) k = rw (n64 peer k, connect_answer_of-again answer) refl
line_of-again (lines.Entry w e) k = entry_again w e k.0 k.1
line_of-again (lines.Stray s) k =
    rw (n32 s.w.0 k.0, n8 s.core.0 k.1, kind_of-again s.kind (codes "reply" ∷ reply_word s.reply ∷ []), reply_number_of-again s.reply k.2) refl
line_of-again (lines.Conn order o) k =
    rw (ng o.group.0 k.0, n64 order k.1, dotted_of-again o.remote k.2, n16 o.remote_port k.3, n16 o.local_port k.4, hex8_of-again o.iss k.5) refl
line_of-again (lines.Input i) k = input_again i k
line_of-again (lines.Output o) k = output_again o k
line_of-again (lines.Left l) k = rw (state_of-again l.state, n64 l.una k.0, n64 l.nxt k.1, n64 l.rcv k.2, n32 l.cwnd k.3, n32 l.ssthresh k.4) refl
line_of-again (lines.Answer wrote taken) k = rw (n64 wrote k.0, n64 taken k.1) refl
line_of-again (lines.Closed core pool) k = rw (n64 core k.0, n32 pool k.1) refl
line_of-again (lines.End replies drops) k = rw (n32 replies k.0, n32 drops k.1) refl

-- ---- the words of a line are plain
p : (n : ℕ) {high : ℕ} → n ≤ high → high < 2 ^ 64 → is_plain (decimal n) ≡ true
p n h k = plain-decimal n (omega arith)

p32 : (n : ℕ) → n ≤ max32 → is_plain (decimal n) ≡ true
p32 n h = plain-decimal n (omega arith)

p64 : (n : ℕ) → n ≤ max64 → is_plain (decimal n) ≡ true
p64 n h = plain-decimal n (omega arith)

pb : (b : BufId) → FitsBuf b → is_plain (buf_word b) ≡ true
pb b h = plain-place b.home.0 b.slot (let k = h.0 in omega arith) (let k = h.1 in omega arith)

plain_state : (s : State) → is_plain (state_word s) ≡ true
plain_state states.Listen = refl
plain_state states.SynSent = refl
plain_state states.SynReceived = refl
plain_state states.Established = refl
plain_state states.FinWait1 = refl
plain_state states.FinWait2 = refl
plain_state states.CloseWait = refl
plain_state states.Closing = refl
plain_state states.LastAck = refl
plain_state states.TimeWait = refl
plain_state states.Closed = refl

plain_connect : (a : ConnectLine) → is_plain (connect_word a) ≡ true
plain_connect connects.Done = refl
plain_connect connects.NoNeighbour = refl
plain_connect connects.NoPort = refl
plain_connect connects.TableFull = refl

plain_kind : (k : Disposition) (ws : List (List ℕ)) → all_plain (kind_words k ++ ws) ≡ all_plain ws
plain_kind kinds.NotIp ws = refl
plain_kind kinds.NotOurs ws = refl
plain_kind kinds.Arp ws = refl
plain_kind kinds.BadIpShort ws = refl
plain_kind kinds.BadIpVersion ws = refl
plain_kind kinds.BadIpLength ws = refl
plain_kind kinds.BadIpSum ws = refl
plain_kind kinds.BadIpFragment ws = refl
plain_kind kinds.NotTcp ws = refl
plain_kind kinds.BadTcpShort ws = refl
plain_kind kinds.BadTcpOffset ws = refl
plain_kind kinds.BadTcpSum ws = refl
plain_kind kinds.Closed ws = refl
plain_kind kinds.Full ws = refl
plain_kind kinds.IcmpEcho ws = refl
plain_kind kinds.UdpEcho ws = refl

plain_reply : (r : Option ℕ) → FitsReply r → is_plain (reply_word r) ≡ true
plain_reply None h = refl
plain_reply (Some n) h = p32 n h

plain_fate : (t : Fate) → FitsFate t → all_plain (fate_words t) ≡ true
plain_fate (fates.Buf b) h = rw (pb b h) refl
plain_fate (fates.RingFull n) h = rw (p32 n h) refl
plain_fate (fates.NoBuffer n) h = rw (p32 n h) refl
plain_fate (fates.TooLong n) h = rw (p32 n h) refl

plain_entry : (w : ℕ) (e : EntryLine) → w ≤ max64 → FitsEntry e → all_plain (entry_words w e) ≡ true
plain_entry w (entries.Frame rec at group ring fate) h k =
    rw (p64 w h, p32 rec k.0, p32 at k.1, p group.0 k.2 (omega arith), p ring.0 k.3 (omega arith), plain_fate fate k.4) refl
plain_entry w (entries.Time t) h k = rw (p64 w h, p32 t k) refl
plain_entry w (entries.Tag group) h k = rw (p64 w h, p group.0 k (omega arith)) refl
plain_entry w (entries.Move group to) h k = rw (p64 w h, p group.0 k.0 (omega arith), p to.0 k.1 (omega arith)) refl
plain_entry w entries.Settle h k = rw (p64 w h) refl

plain_input : (k : InputKind) → FitsInput k → all_plain (input_words k) ≡ true
plain_input inputs.Connect h = refl
plain_input (inputs.Seg w core) h = rw (p32 w.0 h.0, p core.0 h.1 (omega arith)) refl
plain_input (inputs.Timer t) h = rw (p64 t h) refl
plain_input inputs.Accept h = refl
plain_input (inputs.Sendv n) h = rw (p64 n h) refl
plain_input (inputs.RecvDone n) h = rw (p32 n h) refl
plain_input inputs.Close h = refl
plain_input (inputs.Flush w) h = rw (p32 w.0 h) refl

plain_output : (o : OutputLine) → FitsOutput o → all_plain (output_words o) ≡ true
plain_output (outputs.Reply n) h = rw (p32 n h) refl
plain_output (outputs.Ret (rets.Done n)) h = rw (p32 n h) refl
plain_output (outputs.Ret rets.BadHandle) h = refl
plain_output (outputs.Ret rets.NotKnocked) h = refl
plain_output (outputs.Ret rets.NotOpen) h = refl
plain_output (outputs.Ret rets.TooMuch) h = refl
plain_output outputs.Knock h = refl
plain_output outputs.ConnectedUp h = refl
plain_output outputs.ConnectedRefused h = refl
plain_output outputs.ConnectedTimeout h = refl
plain_output (outputs.Recv buf from len) h = rw (pb buf h.0, p from h.1 (omega arith), p len h.2 (omega arith)) refl
plain_output outputs.RecvEnd h = refl
plain_output (outputs.Sent bytes window) h = rw (p32 bytes h.0, p32 window h.1) refl
plain_output outputs.DeadReset h = refl
plain_output outputs.DeadTimeout h = refl

plain_words : (l : Line) → Fits l → all_plain (words l) ≡ true
plain_words (lines.Head h) k = rw (p h.cores k.0 (omega arith), p h.batch k.1 (omega arith), p32 h.buffers k.2) refl
plain_words lines.Open k = refl
plain_words (lines.Ring core r) k = rw (p64 core k.0, p32 r.posted k.1, p32 r.frames k.2, p32 r.items k.3) refl
plain_words (lines.Home core h) k = rw (p64 core k.0, p32 h.pool k.1, p32 h.posted k.2, p32 h.desk k.3, p32 h.held k.4, p32 h.app k.5, p32 h.queue k.6) refl
plain_words (lines.Connect peer answer) k = rw (p64 peer k, plain_connect answer) refl
plain_words (lines.Entry w e) k = plain_entry w e k.0 k.1
plain_words (lines.Stray s) k = rw (p32 s.w.0 k.0, p s.core.0 k.1 (omega arith), plain_kind s.kind (codes "reply" ∷ reply_word s.reply ∷ []), plain_reply s.reply k.2) refl
plain_words (lines.Conn order o) k =
    rw (p o.group.0 k.0 (omega arith), p64 order k.1, plain-dotted o.remote k.2, p o.remote_port k.3 (omega arith), p o.local_port k.4 (omega arith), plain-hex8 o.iss) refl
plain_words (lines.Input i) k = plain_input i k
plain_words (lines.Output o) k = plain_output o k
plain_words (lines.Left l) k = rw (plain_state l.state, p64 l.una k.0, p64 l.nxt k.1, p64 l.rcv k.2, p32 l.cwnd k.3, p32 l.ssthresh k.4) refl
plain_words (lines.Answer wrote taken) k = rw (p64 wrote k.0, p64 taken k.1) refl
plain_words (lines.Closed core pool) k = rw (p64 core k.0, p32 pool k.1) refl
plain_words (lines.End replies drops) k = rw (p32 replies k.0, p32 drops k.1) refl

-- ---- the text of a line
pub line_read-again : (l : Line) → Fits l → line_read (line_text l) ≡ Some l
unfolding line_text
line_read-again l h = by_words (words l) refl (all_lack-plain 32 (words l) (omega arith) (plain_words l h)) (line_of-again l h) where
  by_words : (ws : List (List ℕ)) → words l ≡ ws → all_lack 32 ws ≡ true → line_of ws ≡ Some l → line_of (parts 32 (join 32 ws)) ≡ Some l
  by_words [] e a g = absurd (cc)
  by_words (v ∷ ws) e a g = ap line_of (parts-join 32 v ws a) ∙ g

-- no line has a line feed in it
pub no_feed : (l : Line) → Fits l → lacks 10 (line_text l) ≡ true
unfolding line_text
no_feed l h = lacks-join 10 32 (words l) (λ e. absurd (omega arith)) (all_lack-plain 10 (words l) (omega arith) (plain_words l h))
