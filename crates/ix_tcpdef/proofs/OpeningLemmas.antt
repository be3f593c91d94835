-- A connection opens in order, over every step.
use Rattle.std.proofs.Common.{◌≡◌, ℕ, ◌+◌, Bool, true, false, List, [], ◌∷◌, length, refl, sym, ◌∙◌}
use Rattle.std.specs.Prelude.{nat_lt, nat_le, ◌&&◌, ◌||◌, ◌==◌, not, is_none}
use Rattle.std.specs.List.{list_all}
use Rattle.std.proofs.lemmas.Bool.{cond_both}
use Rattle.ix_base.specs.declared.id.WireNo.{WireNo}
use Rattle.ix_base.specs.declared.segment.Seg.{Seg}
use Rattle.ix_base.specs.declared.segment.SegHead.{SegHead}
use Rattle.ix_base.specs.Sequence.{number, is_past, is_at_or_past}
use Rattle.ix_base.specs.Flags.{has_flag}
use Rattle.ix_tcpdef.specs.Connection.{snd_una, snd_nxt, rcv_nxt, rcv_wnd, seq_of, room, is_listen, is_syn_sent, is_syn_received, is_time_wait, on, tells, ended}
use Rattle.ix_tcpdef.specs.Arrival.{Next, Goes, Stops, ◌>>=◌, job_of, span, is_acceptable, acceptability, reset, synchronize, unacknowledged}
use Rattle.ix_tcpdef.specs.Acknowledgement.{establishing, too_far, is_duplicate, duplicated, advanced, is_newer, windowed, told_sent, fin_acked_in, fin_acked, acked, synchronized, acknowledgement}
use Rattle.ix_tcpdef.specs.Body.{octets, delivered, rest_of, holding, filled, is_apart, waiting, received, takes_body, body, fin_taken_in, fin_taken, past_fin, finished, text_and_fin}
use Rattle.ix_tcpdef.specs.Opening.{opens, opening, connecting, syn_sent}
use Rattle.ix_tcpdef.specs.Calls.{is_live, accept, is_open, sendv, recv_done, closed_state, persists, close, answered, is_connect, called}
use Rattle.ix_tcpdef.specs.Flush.{unsent, resends, resent, sends, data_sent, fin_sent, ack_sent, waits_for_window, armed, flushed, is_due, timed_out, collapsed_in, collapsed, retransmitted, probed, expired}
use Rattle.ix_tcpdef.specs.Step.{checked, arrived_in, arrived, is_alive, stepped, step}
use Rattle.ix_tcpdef.specs.declared.types.Ask.{Ask}
use Rattle.ix_tcpdef.specs.declared.types.Ask.TheVariants as asks
use Rattle.ix_tcpdef.specs.declared.types.Cfg.{Cfg}
use Rattle.ix_tcpdef.specs.declared.types.Connection.{Connection}
use Rattle.ix_tcpdef.specs.declared.types.HeldSegment.{HeldSegment}
use Rattle.ix_tcpdef.specs.declared.types.Input.{Input}
use Rattle.ix_tcpdef.specs.declared.types.Input.TheVariants as inputs
use Rattle.ix_tcpdef.specs.declared.types.Job.{Job}
use Rattle.ix_tcpdef.specs.declared.types.Octets.{Octets}
use Rattle.ix_tcpdef.specs.declared.types.State.{State}
use Rattle.ix_tcpdef.specs.declared.types.State.TheVariants as st
use Rattle.ix_tcpdef.specs.declared.types.Told.{Told}
use Rattle.ix_tcpdef.specs.declared.types.Told.TheVariants as told
use Rattle.ix_base.specs.declared.segment.TheConstants.{ACK, FIN, RST, SYN}
use Rattle.ix_tcpdef.specs.Sound.{OpensInOrder, HasOpened}
use Rattle.ix_tcpdef.specs.Positions.{BeginsOpening, StepsOpen}

abbrev Opened : Job → Type 0
Opened j = HasOpened j.connection

-- another state than SYN-RECEIVED
record OpensElsewhere (state : State) (sent : List ℕ) : Type 0 where
  other : is_syn_received state ≡ false
  listening : is_listen state ≡ true → sent ≡ []

abbrev Apart : Connection → Type 0
Apart w = OpensElsewhere w.state w.sent

abbrev Elsewhere : Job → Type 0
Elsewhere j = Apart j.connection

elsewhere-opened : (j : Job) → Elsewhere j → Opened j
elsewhere-opened j p = record { listening = p.listening; synchronizing = λ s. let no : false ≡ true = sym p.other ∙ s in cc }

-- a state that is neither LISTEN nor SYN-RECEIVED
left : (s : State) (una nxt : ℕ) (sent : List ℕ) → is_listen s ≡ false → is_syn_received s ≡ false → OpensInOrder s una nxt sent
left s una nxt sent a b =
    record {
      listening = λ e. let no : false ≡ true = sym a ∙ e in cc;
      synchronizing = λ e. let no : false ≡ true = sym b ∙ e in cc;
    }

pub begins_opening : BeginsOpening
begins_opening flow peer_mac iss = record { listening = λ _. refl; synchronizing = λ e. cc }

-- what holds of a job holds after a chain of parts that keep it
chained : (P : Job → Type 0) (n : Next) (f : Job → Next) → P (job_of n) → ((i : Job) → P i → P (job_of (f i))) → P (job_of (n >>= f))
chained P (Goes i) f p more = more i p
chained P (Stops i) f p more = p

-- what holds of the connection's state and its own stream holds after an event was told
told-opened : (j : Job) (t : Told) → Opened j → Opened (tells j t)
told-opened j t p = cond_both (j.connection.accepted && not j.connection.shut) _ _ Opened (λ _. p) (λ _. p)

told-elsewhere : (j : Job) (t : Told) → Elsewhere j → Elsewhere (tells j t)
told-elsewhere j t p = cond_both (j.connection.accepted && not j.connection.shut) _ _ Elsewhere (λ _. p) (λ _. p)

ended-opened : (w : Connection) → HasOpened (ended w)
ended-opened w = left st.Closed w.una w.nxt w.sent refl refl

-- ## Arrival
abbrev Leaves : Next → Type 0
Leaves n = Opened (job_of n)

opened-acceptability : (cfg : Cfg) (h : SegHead) (now : ℕ) (j : Job) → Opened j → Leaves (acceptability cfg h now j)
unfolding acceptability
opened-acceptability cfg h now j p =
    cond_both (is_acceptable (span h) (rcv_wnd cfg j.connection) (seq_of j.connection h)) _ _ Leaves (λ _. p)
    (λ _. cond_both (has_flag h.flags RST) _ _ Leaves (λ _. p)
    (λ _. cond_both (has_flag h.flags FIN && is_time_wait j.connection.state) _ _ Leaves (λ _. p) (λ _. p)))

opened-reset : (cfg : Cfg) (h : SegHead) (j : Job) → Opened j → Leaves (reset cfg h j)
unfolding reset
opened-reset cfg h j p =
    cond_both (not (has_flag h.flags RST)) _ _ Leaves (λ _. p)
    (λ _. cond_both (h.seq == rcv_nxt j.connection) _ _ Leaves (λ _. told-opened (on j (ended j.connection)) told.DeadReset (ended-opened j.connection)) (λ _. p))

opened-synchronize : (cfg : Cfg) (h : SegHead) (j : Job) → Opened j → Leaves (synchronize cfg h j)
unfolding synchronize
opened-synchronize cfg h j p =
    cond_both (not (has_flag h.flags SYN)) _ _ Leaves (λ _. p)
    (λ _. cond_both (is_syn_received j.connection.state) _ _ Leaves (λ _. ended-opened j.connection) (λ _. p))

opened-unacknowledged : (h : SegHead) (j : Job) → Opened j → Leaves (unacknowledged h j)
unfolding unacknowledged
opened-unacknowledged h j p = cond_both (has_flag h.flags ACK) _ _ Leaves (λ _. p) (λ _. p)

opened-establishing : (h : SegHead) (j : Job) → Opened j → Leaves (establishing h j)
unfolding establishing
opened-establishing h j p =
    cond_both (is_past (snd_una j.connection) h.ack && not (is_past (snd_nxt j.connection) h.ack)) _ _ Leaves (λ _. left st.Established _ _ _ refl refl) (λ _. p)

-- an acknowledgement in another state than SYN-RECEIVED
apart-duplicated : (h : SegHead) (w : Connection) → Apart w → Apart (duplicated h w)
unfolding duplicated
apart-duplicated h w p =
    cond_both (not (is_duplicate h w)) _ _ Apart (λ _. p)
    (λ _. cond_both w.recovering _ _ Apart (λ _. p) (λ _. cond_both (w.dups == 2) _ _ Apart (λ _. p) (λ _. p)))

apart-advanced : (cfg : Cfg) (h : SegHead) (now : ℕ) (w : Connection) → Apart w → Apart (advanced cfg h now w)
unfolding advanced
apart-advanced cfg h now w p = cond_both (is_past (snd_una w) h.ack) _ _ Apart (λ _. p) (λ _. p)

apart-windowed : (h : SegHead) (before : ℕ) (w : Connection) → Apart w → Apart (windowed h before w)
unfolding windowed
apart-windowed h before w p =
    cond_both (not (is_at_or_past before h.ack && is_newer h w)) _ _ Apart (λ _. p)
    (λ _. cond_both (nat_lt 0 h.window && (w.una == w.nxt)) _ _ Apart (λ _. p) (λ _. p))

elsewhere-told_sent : (n : ℕ) (j : Job) → Elsewhere j → Elsewhere (told_sent n j)
unfolding told_sent
elsewhere-told_sent n j p =
    cond_both (nat_lt 0 n || (j.connection.wants && nat_lt 0 (room j.connection))) _ _ Elsewhere
    (λ _. told-elsewhere (on j (record j.connection { wants = false })) (told.Sent n (room j.connection)) p)
    (λ _. p)

elsewhere-fin_acked_in : (s : State) (cfg : Cfg) (now : ℕ) (j : Job) → Elsewhere j → Elsewhere (job_of (fin_acked_in s cfg now j))
elsewhere-fin_acked_in st.FinWait1 cfg now j p = record { other = refl; listening = λ e. cc }
elsewhere-fin_acked_in st.Closing cfg now j p = record { other = refl; listening = λ e. cc }
elsewhere-fin_acked_in st.LastAck cfg now j p = record { other = refl; listening = λ e. cc }
elsewhere-fin_acked_in _ cfg now j p = p

elsewhere-fin_acked : (cfg : Cfg) (now : ℕ) (j : Job) → Elsewhere j → Elsewhere (job_of (fin_acked cfg now j))
unfolding fin_acked
elsewhere-fin_acked cfg now j p =
    cond_both (j.connection.fin_sent && (j.connection.una == j.connection.nxt)) _ _ (λ (n : Next). Elsewhere (job_of n)) (λ _. elsewhere-fin_acked_in j.connection.state cfg now j p) (λ _. p)

elsewhere-too_far : (cfg : Cfg) (h : SegHead) (j : Job) → Elsewhere j → Elsewhere (job_of (too_far cfg h j))
unfolding too_far
elsewhere-too_far cfg h j p = cond_both (is_past (snd_nxt j.connection) h.ack) _ _ (λ (n : Next). Elsewhere (job_of n)) (λ _. p) (λ _. p)

elsewhere-synchronized : (cfg : Cfg) (h : SegHead) (now : ℕ) (j : Job) → Elsewhere j → Elsewhere (job_of (synchronized cfg h now j))
unfolding synchronized
elsewhere-synchronized cfg h now j p =
    chained Elsewhere (too_far cfg h j) _ (elsewhere-too_far cfg h j p)
    (λ i q. elsewhere-fin_acked cfg now _ (elsewhere-told_sent _ (on i (acked cfg h now i.connection)) (apart-windowed h (snd_una i.connection) _ (apart-advanced cfg h now _ (apart-duplicated h i.connection q)))))

opened-acknowledgement : (cfg : Cfg) (h : SegHead) (now : ℕ) (j : Job) → Opened j → Leaves (acknowledgement cfg h now j)
unfolding acknowledgement
opened-acknowledgement cfg h now j p =
    cond_both (is_syn_received j.connection.state) _ _ Leaves
    (λ _. opened-establishing h j p)
    (λ other. elsewhere-opened (job_of (synchronized cfg h now j)) (elsewhere-synchronized cfg h now j (record { other = other; listening = p.listening })))

-- ## Text and FIN
opened-delivered : (o : Octets) (w : WireNo) (j : Job) → Opened j → Opened (delivered o w j)
unfolding delivered
opened-delivered o w j p =
    cond_both j.connection.shut _ _ Opened (λ _. p) (λ _. cond_both j.connection.accepted _ _ Opened (λ _. p) (λ _. p))

opened-filled : (ss : List HeldSegment) (fin : Bool) (j : Job) → Opened j → Opened (filled ss fin j).0
unfolding filled
opened-filled [] fin j p = p
opened-filled (s ∷ rest) fin j p =
    let P : Job × Bool → Type 0 = λ r. Opened r.0 in
    cond_both (nat_lt j.connection.rcv s.at) _ _ P (λ _. p)
    (λ _. cond_both (nat_le (s.at + length s.bytes) j.connection.rcv) _ _ P
    (λ _. opened-filled rest fin (holding rest j) p)
    (λ _. opened-filled rest s.fin (delivered (rest_of s j.connection.rcv) s.w (holding rest j)) (opened-delivered (rest_of s j.connection.rcv) s.w (holding rest j) p)))

opened-waiting : (o : Octets) (w : WireNo) (fin : Bool) (c : Connection) → HasOpened c → HasOpened (waiting o w fin c)
unfolding waiting
opened-waiting o w fin c p = cond_both (nat_lt (length c.held) 8 && list_all (is_apart o) c.held) _ _ HasOpened (λ _. p) (λ _. p)

opened-received : (cfg : Cfg) (o : Octets) (w : WireNo) (fin : Bool) (j : Job) → Opened j → Opened (received cfg o w fin j).0
unfolding received
opened-received cfg o w fin j p =
    cond_both (o.at == j.connection.rcv) _ _ (λ (r : Job × Bool). Opened r.0)
    (λ _. opened-filled j.connection.held fin (delivered o w j) (opened-delivered o w j p))
    (λ _. opened-waiting o w fin j.connection p)

opened-body : (cfg : Cfg) (w : WireNo) (seg : Seg) (j : Job) → Opened j → Opened (body cfg w seg j).0
unfolding body
opened-body cfg w seg j p =
    let P : Job × Bool → Type 0 = λ r. Opened r.0 in
    let o : Octets = octets j.connection.rcv (rcv_wnd cfg j.connection) (seq_of j.connection seg.head) seg.head.at seg.body in
    cond_both (not (takes_body j.connection.state)) _ _ P (λ _. p)
    (λ _. cond_both (length o.bytes == 0) _ _ P (λ _. p) (λ _. opened-received cfg o w _ j p))

opened-fin_taken_in : (s : State) (cfg : Cfg) (now : ℕ) (j : Job) → Opened j → Opened (fin_taken_in s cfg now j (past_fin j.connection))
opened-fin_taken_in st.Established cfg now j p = told-opened (on j (record (past_fin j.connection) { state = st.CloseWait })) told.RecvEnd (left st.CloseWait _ _ _ refl refl)
opened-fin_taken_in st.FinWait1 cfg now j p = left st.Closing _ _ _ refl refl
opened-fin_taken_in st.FinWait2 cfg now j p = left st.TimeWait _ _ _ refl refl
opened-fin_taken_in _ cfg now j p = p

opened-finished : (cfg : Cfg) (h : SegHead) (now : ℕ) (stands : Bool) (j : Job) → Opened j → Opened (finished cfg h now stands j)
unfolding finished fin_taken
opened-finished cfg h now stands j p =
    cond_both stands _ _ Opened (λ _. opened-fin_taken_in j.connection.state cfg now j p)
    (λ _. cond_both (has_flag h.flags FIN && (h.len == 0) && is_past (rcv_nxt j.connection) h.seq) _ _ Opened (λ _. p) (λ _. p))

opened-text_and_fin : (cfg : Cfg) (w : WireNo) (seg : Seg) (now : ℕ) (j : Job) → Opened j → Opened (text_and_fin cfg w seg now j)
unfolding text_and_fin
opened-text_and_fin cfg w seg now j p = opened-finished cfg seg.head now _ _ (opened-body cfg w seg j p)

opened-checked : (cfg : Cfg) (w : WireNo) (seg : Seg) (now : ℕ) (j : Job) → Opened j → Leaves (checked cfg w seg now j)
unfolding checked
opened-checked cfg w seg now j p =
    chained Opened (acceptability cfg seg.head now j) _ (opened-acceptability cfg seg.head now j p)
    (λ i p. chained Opened (reset cfg seg.head i) _ (opened-reset cfg seg.head i p)
    (λ i p. chained Opened (synchronize cfg seg.head i) _ (opened-synchronize cfg seg.head i p)
    (λ i p. chained Opened (unacknowledged seg.head i) _ (opened-unacknowledged seg.head i p)
    (λ i p. chained Opened (acknowledgement cfg seg.head now i) _ (opened-acknowledgement cfg seg.head now i p)
    (λ i p. opened-text_and_fin cfg w seg now i p)))))

-- ## Opening
opened-opening : (cfg : Cfg) (h : SegHead) (now : ℕ) (j : Job) → Opened j → Opened (opening cfg h now j)
unfolding opening
opened-opening cfg h now j p = cond_both (opens h) _ _ Opened (λ _. record { listening = λ e. cc; synchronizing = λ _. (refl, refl) }) (λ _. p)

opened-syn_sent : (cfg : Cfg) (h : SegHead) (j : Job) → Opened j → Opened (syn_sent cfg h j)
unfolding syn_sent
opened-syn_sent cfg h j p =
    cond_both (has_flag h.flags ACK && not (h.ack == number j.connection.iss 1)) _ _ Opened
    (λ _. cond_both (has_flag h.flags RST) _ _ Opened (λ _. p) (λ _. p))
    (λ _. cond_both (has_flag h.flags RST) _ _ Opened
    (λ _. cond_both (has_flag h.flags ACK) _ _ Opened (λ _. ended-opened j.connection) (λ _. p))
    (λ _. cond_both (has_flag h.flags SYN && has_flag h.flags ACK) _ _ Opened (λ _. left st.Established _ _ _ refl refl) (λ _. p)))

opened-arrived_in : (s : State) (cfg : Cfg) (w : WireNo) (seg : Seg) (now : ℕ) (j : Job) → Opened j → Opened (arrived_in s cfg w seg now j)
opened-arrived_in st.Closed cfg w seg now j p = p
opened-arrived_in st.Listen cfg w seg now j p = opened-opening cfg seg.head now j p
opened-arrived_in st.SynSent cfg w seg now j p = opened-syn_sent cfg seg.head j p
opened-arrived_in _ cfg w seg now j p = opened-checked cfg w seg now j p

-- ## Calls
opened-accept : (j : Job) → Opened j → Opened (accept j)
unfolding accept
opened-accept j p = cond_both j.connection.accepted _ _ Opened (λ _. p) (λ _. p)

second : (a b : Bool) → not (a && b) ≡ false → b ≡ true
second true true e = refl
second true false e = sym e
second false b e = cc

open-listen : (s : State) → is_open s ≡ true → is_listen s ≡ false
open-listen st.Listen e = sym e
open-listen _ e = refl

open-syn_received : (s : State) → is_open s ≡ true → is_syn_received s ≡ false
open-syn_received st.SynReceived e = sym e
open-syn_received _ e = refl

opened-sendv : (bytes : List ℕ) (j : Job) → Opened j → Opened (sendv bytes j)
unfolding sendv
opened-sendv bytes j p =
    cond_both (not (j.connection.accepted && is_open j.connection.state)) _ _ Opened (λ _. p)
    (λ e. let stands : is_open j.connection.state ≡ true = second j.connection.accepted (is_open j.connection.state) e in
    left j.connection.state _ _ _ (open-listen j.connection.state stands) (open-syn_received j.connection.state stands))

opened-recv_done : (cfg : Cfg) (n : ℕ) (j : Job) → Opened j → Opened (recv_done cfg n j)
unfolding recv_done
opened-recv_done cfg n j p =
    cond_both (not j.connection.accepted) _ _ Opened (λ _. p) (λ _. cond_both (nat_lt j.connection.unread n) _ _ Opened (λ _. p) (λ _. p))

closed-syn_received : (s : State) → is_syn_received (closed_state s) ≡ is_syn_received s
closed-syn_received st.Established = refl
closed-syn_received st.CloseWait = refl
closed-syn_received _ = refl

closed-listen : (s : State) → is_listen (closed_state s) ≡ is_listen s
closed-listen st.Established = refl
closed-listen st.CloseWait = refl
closed-listen _ = refl

shut-opened : (w : Connection) → HasOpened w → OpensInOrder (closed_state w.state) w.una w.nxt w.sent
shut-opened w p =
    record {
      listening = λ e. p.listening (sym (closed-listen w.state) ∙ e);
      synchronizing = λ e. p.synchronizing (sym (closed-syn_received w.state) ∙ e);
    }

opened-close : (j : Job) → Opened j → Opened (close j)
unfolding close
opened-close j p =
    cond_both (persists j.connection) _ _ HasOpened
    (λ _. shut-opened j.connection p)
    (λ _. shut-opened j.connection p)

opened-answered : (cfg : Cfg) (ask : Ask) (j : Job) → Opened j → Opened (answered cfg ask j)
unfolding answered
opened-answered cfg asks.Connect j p = p
opened-answered cfg asks.Accept j p = opened-accept j p
opened-answered cfg (asks.Sendv bytes) j p = opened-sendv bytes j p
opened-answered cfg (asks.RecvDone n) j p = opened-recv_done cfg n j p
opened-answered cfg asks.Close j p = opened-close j p

opened-connecting : (cfg : Cfg) (now : ℕ) (j : Job) → Opened (connecting cfg now j)
unfolding connecting
opened-connecting cfg now j = left st.SynSent _ _ _ refl refl

opened-called : (cfg : Cfg) (ask : Ask) (now : ℕ) (j : Job) → Opened j → Opened (called cfg ask now j)
unfolding called
opened-called cfg ask now j p =
    cond_both (is_connect ask) _ _ Opened
    (λ _. cond_both (is_listen j.connection.state) _ _ Opened (λ _. opened-connecting cfg now j) (λ _. p))
    (λ _. cond_both (is_live j.connection) _ _ Opened (λ _. opened-answered cfg ask j p) (λ _. p))

-- ## What is sent
opened-resent : (cfg : Cfg) (j : Job) → Opened j → Opened (resent cfg j)
unfolding resent
opened-resent cfg j p = cond_both (j.connection.resend && resends j.connection.state) _ _ Opened (λ _. p) (λ _. p)

sends-syn_received : (s : State) → sends s ≡ true → is_syn_received s ≡ false
sends-syn_received st.SynReceived e = sym e
sends-syn_received _ e = refl

-- more is sent in other states alone
sent-opened : (w : Connection) (nxt : ℕ) → sends w.state ≡ true → HasOpened w → OpensInOrder w.state w.una nxt w.sent
sent-opened w nxt e p =
    record {
      listening = p.listening;
      synchronizing = λ s. let no : false ≡ true = sym (sends-syn_received w.state e) ∙ s in cc;
    }

first : (a b c d : Bool) → (a && b && c && d) ≡ true → a ≡ true
first true b c d e = refl
first false b c d e = e

opened-data_sent : (cfg : Cfg) (j : Job) → Opened j → Opened (data_sent cfg j)
unfolding data_sent
opened-data_sent cfg j p =
    cond_both (sends j.connection.state) _ _ Opened (λ e. sent-opened j.connection _ e p) (λ _. p)

opened-fin_sent : (cfg : Cfg) (j : Job) → Opened j → Opened (fin_sent cfg j)
unfolding fin_sent
opened-fin_sent cfg j p =
    cond_both (sends j.connection.state && j.connection.fin_wanted && not j.connection.fin_sent && (length (unsent j.connection) == 0)) _ _ Opened
    (λ e. sent-opened j.connection _ (first (sends j.connection.state) j.connection.fin_wanted (not j.connection.fin_sent) (length (unsent j.connection) == 0) e) p)
    (λ _. p)

opened-ack_sent : (cfg : Cfg) (j : Job) → Opened j → Opened (ack_sent cfg j)
unfolding ack_sent
opened-ack_sent cfg j p = cond_both (j.connection.ack_owed && (length j.outputs == 0)) _ _ Opened (λ _. p) (λ _. p)

opened-armed : (cfg : Cfg) (now : ℕ) (w : Connection) → HasOpened w → HasOpened (armed cfg now w)
unfolding armed
opened-armed cfg now w p =
    cond_both (is_none w.deadline && (nat_lt w.una w.nxt || ((w.una == w.nxt) && waits_for_window w))) _ _ HasOpened (λ _. p) (λ _. p)

opened-flushed : (cfg : Cfg) (now : ℕ) (j : Job) → Opened j → Opened (flushed cfg now j)
unfolding flushed
opened-flushed cfg now j p = opened-armed cfg now _ (opened-ack_sent cfg _ (opened-fin_sent cfg _ (opened-data_sent cfg _ (opened-resent cfg j p))))

opened-timed_out : (j : Job) → Opened (timed_out j)
unfolding timed_out
opened-timed_out j =
    cond_both (is_syn_sent j.connection.state) _ _ Opened
    (λ _. ended-opened j.connection)
    (λ _. told-opened (on j (ended j.connection)) told.DeadTimeout (ended-opened j.connection))

opened-collapsed_in : (s : State) (w : Connection) → HasOpened w → HasOpened (collapsed_in s w)
opened-collapsed_in st.SynSent w p = p
opened-collapsed_in st.SynReceived w p = p
opened-collapsed_in _ w p = p

opened-retransmitted : (cfg : Cfg) (now : ℕ) (j : Job) → Opened j → Opened (retransmitted cfg now j)
unfolding retransmitted collapsed
opened-retransmitted cfg now j p =
    cond_both (nat_le cfg.retries (j.connection.expiries + 1)) _ _ Opened (λ _. opened-timed_out j) (λ _. opened-collapsed_in j.connection.state j.connection p)

opened-probed : (cfg : Cfg) (now : ℕ) (j : Job) → Opened j → Opened (probed cfg now j)
unfolding probed
opened-probed cfg now j p = p

opened-expired : (cfg : Cfg) (now : ℕ) (j : Job) → Opened j → Opened (expired cfg now j)
unfolding expired
opened-expired cfg now j p =
    cond_both (not (is_due j.connection.deadline now)) _ _ Opened (λ _. p)
    (λ _. cond_both (is_time_wait j.connection.state) _ _ Opened (λ _. ended-opened j.connection)
    (λ _. cond_both (nat_lt j.connection.una j.connection.nxt) _ _ Opened (λ _. opened-retransmitted cfg now j p) (λ _. opened-probed cfg now j p)))

-- ## A step
opened-stepped : (cfg : Cfg) (input : Input) (now : ℕ) (j : Job) → Opened j → Opened (stepped cfg input now j)
unfolding stepped arrived
opened-stepped cfg (inputs.Segment w seg) now j p = opened-arrived_in j.connection.state cfg w seg now j p
opened-stepped cfg inputs.Timer now j p = cond_both (is_alive j.connection.state) _ _ Opened (λ _. opened-expired cfg now j p) (λ _. p)
opened-stepped cfg (inputs.Call ask) now j p = opened-called cfg ask now j p
opened-stepped cfg inputs.Flush now j p = cond_both (is_alive j.connection.state) _ _ Opened (λ _. opened-flushed cfg now j p) (λ _. p)

pub steps_open : StepsOpen
unfolding step
steps_open cfg w input now p = opened-stepped cfg input now (record { connection = w; outputs = [] }) p
