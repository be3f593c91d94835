-- Behind its handshake a connection is known to its application, and before it nothing was delivered.
use Rattle.std.proofs.Common.{◌≡◌, ℕ, ◌+◌, refl, ap, ◌∙◌, Bool, true, false, List, [], ◌∷◌}
use Rattle.std.specs.Prelude.{if◌then◌else◌, ◌&&◌, ◌||◌, not, length, ◌==◌, nat_lt, nat_le}
use Rattle.ix_base.specs.declared.id.WireNo.{WireNo}
use Rattle.ix_base.specs.declared.segment.Seg.{Seg}
use Rattle.ix_base.specs.declared.segment.SegHead.{SegHead}
use Rattle.ix_base.specs.Sequence.{is_past, is_at_or_past, number}
use Rattle.ix_base.specs.Flags.{has_flag}
use Rattle.ix_tcpdef.specs.Connection.{is_closed, tells, on, room, is_syn_received, is_time_wait, is_syn_sent, is_listen, snd_una, snd_nxt, rcv_nxt, rcv_wnd, seq_of, ended}
use Rattle.ix_tcpdef.specs.Opening.{opens, opening, connecting, syn_sent}
use Rattle.ix_tcpdef.specs.Arrival.{Next, Goes, Stops, ◌>>=◌, job_of, span, is_acceptable, acceptability, reset, synchronize, unacknowledged}
use Rattle.ix_tcpdef.specs.Acknowledgement.{establishing, too_far, is_duplicate, duplicated, advanced, is_newer, windowed, told_sent, fin_acked_in, fin_acked, acked, synchronized, acknowledgement}
use Rattle.ix_tcpdef.specs.Body.{delivered, rest_of, holding, filled, waiting, received, takes_body, body, past_fin, fin_taken_in, fin_taken, finished, text_and_fin}
use Rattle.ix_tcpdef.specs.Flush.{resends, resent, sends, data_sent, fin_sent, ack_sent, armed, flushed, is_due, timed_out, collapsed_in, collapsed, retransmitted, probed, expired}
use Rattle.ix_tcpdef.specs.Calls.{accept, sendv, is_open, recv_done, persists, close, answered, is_connect, is_live, called}
use Rattle.ix_tcpdef.specs.Needs.{carries}
use Rattle.ix_tcpdef.specs.Step.{checked, arrived_in, arrived, is_alive, stepped, step}
use Rattle.ix_tcpdef.specs.declared.types.Ask.{Ask}
use Rattle.ix_tcpdef.specs.declared.types.Ask.TheVariants as asks
use Rattle.ix_tcpdef.specs.declared.types.Cfg.{Cfg}
use Rattle.ix_tcpdef.specs.declared.types.State.{State}
use Rattle.ix_tcpdef.specs.declared.types.State.TheVariants as st
use Rattle.ix_tcpdef.specs.declared.types.Connection.{Connection}
use Rattle.ix_tcpdef.specs.declared.types.HeldSegment.{HeldSegment}
use Rattle.ix_tcpdef.specs.declared.types.Input.{Input}
use Rattle.ix_tcpdef.specs.declared.types.Input.TheVariants as inputs
use Rattle.ix_tcpdef.specs.declared.types.Job.{Job}
use Rattle.ix_tcpdef.specs.declared.types.Octets.{Octets}
use Rattle.ix_tcpdef.specs.declared.types.Piece.{Piece}
use Rattle.ix_tcpdef.specs.declared.types.Told.{Told}
use Rattle.ix_base.specs.declared.segment.TheConstants.{ACK, FIN, RST, SYN}

-- k and a: whether a knock was told before, and whether it was accepted
pub record Behind (k a knocked accepted : Bool) (s : State) (pieces : List Piece) : Type 0 where
  pub knock : k ≡ true → knocked ≡ true
  pub kept : a ≡ true → accepted ≡ true
  pub state : carries s ≡ true → (knocked || accepted) ≡ true
  pub parts : (knocked || accepted) ≡ false → pieces ≡ []

abbrev Ok : Bool → Bool → Connection → Type 0
Ok k a w = Behind k a w.knocked w.accepted w.state w.pieces

-- the same of one that is known to its application
record Known (k a knocked accepted : Bool) : Type 0 where
  knock : k ≡ true → knocked ≡ true
  kept : a ≡ true → accepted ≡ true
  known : (knocked || accepted) ≡ true

abbrev Kn : Bool → Bool → Connection → Type 0
Kn k a w = Known k a w.knocked w.accepted

pub never : (b : Bool) → b ≡ true → b ≡ false → ⊥
never true p q = cc
never false p q = cc

carried : (s : State) → takes_body s ≡ true → carries s ≡ true
carried st.Established e = refl
carried st.FinWait1 e = refl
carried st.FinWait2 e = refl
carried _ e = absurd (cc)

module _ (k a : Bool) where
  ok_if : (b : Bool) (x y : Connection) → Ok k a x → Ok k a y → Ok k a (if b then x else y)
  ok_if true x y p q = p
  ok_if false x y p q = q

  job_if : (b : Bool) (x y : Job) → Ok k a x.connection → Ok k a y.connection → Ok k a (if b then x else y).connection
  job_if true x y p q = p
  job_if false x y p q = q

  job_where : (b : Bool) (x y : Job) → (b ≡ true → Ok k a x.connection) → (b ≡ false → Ok k a y.connection) → Ok k a (if b then x else y).connection
  job_where true x y p q = p refl
  job_where false x y p q = q refl

  next_if : (b : Bool) (x y : Next) → Ok k a (job_of x).connection → Ok k a (job_of y).connection → Ok k a (job_of (if b then x else y)).connection
  next_if true x y p q = p
  next_if false x y p q = q

  next_then : (n : Next) (g : Job → Next) → Ok k a (job_of n).connection → ((j : Job) → Ok k a j.connection → Ok k a (job_of (g j)).connection) → Ok k a (job_of (n >>= g)).connection
  next_then (Goes j) g p f = f j p
  next_then (Stops j) g p f = p

  kn_if : (b : Bool) (x y : Connection) → Kn k a x → Kn k a y → Kn k a (if b then x else y)
  kn_if true x y p q = p
  kn_if false x y p q = q

  kn-job_if : (b : Bool) (x y : Job) → Kn k a x.connection → Kn k a y.connection → Kn k a (if b then x else y).connection
  kn-job_if true x y p q = p
  kn-job_if false x y p q = q

  kn-pair_if : (b : Bool) (x y : Job × Bool) → Kn k a x.0.connection → Kn k a y.0.connection → Kn k a (if b then x else y).0.connection
  kn-pair_if true x y p q = p
  kn-pair_if false x y p q = q

  -- who is known is behind its handshake, or may be
  from_known : (w : Connection) → Kn k a w → Ok k a w
  from_known w p = record { knock = p.knock; kept = p.kept; state = λ _. p.known; parts = λ e. absurd (never (w.knocked || w.accepted) p.known e) }

  to_known : (w : Connection) → (w.knocked || w.accepted) ≡ true → Ok k a w → Kn k a w
  to_known w e p = record { knock = p.knock; kept = p.kept; known = e }

  ok-ended : (w : Connection) → Ok k a w → Ok k a (ended w)
  ok-ended w p = record { knock = p.knock; kept = p.kept; state = λ e. absurd (cc); parts = p.parts }

  ok-tells : (j : Job) (t : Told) → Ok k a j.connection → Ok k a (tells j t).connection
  ok-tells j t p = job_if (j.connection.accepted && not j.connection.shut) _ _ p p

  -- ## Arrival
  ok-acceptability : (cfg : Cfg) (h : SegHead) (now : ℕ) (j : Job) → Ok k a j.connection → Ok k a (job_of (acceptability cfg h now j)).connection
  unfolding acceptability
  ok-acceptability cfg h now j p =
      next_if (is_acceptable (span h) (rcv_wnd cfg j.connection) (seq_of j.connection h)) _ _ p
      (next_if (has_flag h.flags RST) _ _ p (next_if (has_flag h.flags FIN && is_time_wait j.connection.state) _ _ p p))

  ok-reset : (cfg : Cfg) (h : SegHead) (j : Job) → Ok k a j.connection → Ok k a (job_of (reset cfg h j)).connection
  unfolding reset
  ok-reset cfg h j p =
      next_if (not (has_flag h.flags RST)) _ _ p
      (next_if (h.seq == rcv_nxt j.connection) _ _ (ok-tells (on j (ended j.connection)) _ (ok-ended j.connection p)) p)

  ok-synchronize : (cfg : Cfg) (h : SegHead) (j : Job) → Ok k a j.connection → Ok k a (job_of (synchronize cfg h j)).connection
  unfolding synchronize
  ok-synchronize cfg h j p =
      next_if (not (has_flag h.flags SYN)) _ _ p (next_if (is_syn_received j.connection.state) _ _ (ok-ended j.connection p) p)

  ok-unacknowledged : (h : SegHead) (j : Job) → Ok k a j.connection → Ok k a (job_of (unacknowledged h j)).connection
  unfolding unacknowledged
  ok-unacknowledged h j p = next_if (has_flag h.flags ACK) _ _ p p

  -- ## Acknowledgement
  ok-establishing : (h : SegHead) (j : Job) → Ok k a j.connection → Ok k a (job_of (establishing h j)).connection
  unfolding establishing
  ok-establishing h j p =
      next_if (is_past (snd_una j.connection) h.ack && not (is_past (snd_nxt j.connection) h.ack)) _ _
      (record { knock = λ _. refl; kept = p.kept; state = λ _. refl; parts = λ e. absurd (cc) }) p

  ok-too_far : (cfg : Cfg) (h : SegHead) (j : Job) → Ok k a j.connection → Ok k a (job_of (too_far cfg h j)).connection
  unfolding too_far
  ok-too_far cfg h j p = next_if (is_past (snd_nxt j.connection) h.ack) _ _ p p

  ok-duplicated : (h : SegHead) (w : Connection) → Ok k a w → Ok k a (duplicated h w)
  unfolding duplicated
  ok-duplicated h w p = ok_if (not (is_duplicate h w)) _ _ p (ok_if w.recovering _ _ p (ok_if (w.dups == 2) _ _ p p))

  ok-advanced : (cfg : Cfg) (h : SegHead) (now : ℕ) (w : Connection) → Ok k a w → Ok k a (advanced cfg h now w)
  unfolding advanced
  ok-advanced cfg h now w p = ok_if (is_past (snd_una w) h.ack) _ _ p p

  ok-windowed : (h : SegHead) (before : ℕ) (w : Connection) → Ok k a w → Ok k a (windowed h before w)
  unfolding windowed
  ok-windowed h before w p =
      ok_if (not (is_at_or_past before h.ack && is_newer h w)) _ _ p (ok_if (nat_lt 0 h.window && (w.una == w.nxt)) _ _ p p)

  ok-told_sent : (n : ℕ) (j : Job) → Ok k a j.connection → Ok k a (told_sent n j).connection
  unfolding told_sent
  ok-told_sent n j p =
      job_if (nat_lt 0 n || (j.connection.wants && nat_lt 0 (room j.connection))) _ _ (ok-tells (on j (record j.connection { wants = false })) _ p) p

  -- a state that carries goes to one that does
  goes_on : (w : Connection) (s t : State) → w.state ≡ s → carries s ≡ true → Ok k a w → Ok k a (record w { state = t })
  goes_on w s t e f p = record { knock = p.knock; kept = p.kept; state = λ _. p.state (ap carries e ∙ f); parts = p.parts }

  ok-fin_acked_in : (t : State) (cfg : Cfg) (now : ℕ) (j : Job) → j.connection.state ≡ t → Ok k a j.connection → Ok k a (job_of (fin_acked_in t cfg now j)).connection
  ok-fin_acked_in st.FinWait1 cfg now j e p = goes_on j.connection st.FinWait1 st.FinWait2 e refl p
  ok-fin_acked_in st.Closing cfg now j e p = goes_on j.connection st.Closing st.TimeWait e refl p
  ok-fin_acked_in st.LastAck cfg now j e p = ok-ended j.connection p
  ok-fin_acked_in _ cfg now j e p = p

  ok-fin_acked : (cfg : Cfg) (now : ℕ) (j : Job) → Ok k a j.connection → Ok k a (job_of (fin_acked cfg now j)).connection
  unfolding fin_acked
  ok-fin_acked cfg now j p =
      next_if (j.connection.fin_sent && (j.connection.una == j.connection.nxt)) _ _ (ok-fin_acked_in j.connection.state cfg now j refl p) p

  ok-acked : (cfg : Cfg) (h : SegHead) (now : ℕ) (w : Connection) → Ok k a w → Ok k a (acked cfg h now w)
  ok-acked cfg h now w p = ok-windowed h (snd_una w) _ (ok-advanced cfg h now _ (ok-duplicated h w p))

  ok-synchronized : (cfg : Cfg) (h : SegHead) (now : ℕ) (j : Job) → Ok k a j.connection → Ok k a (job_of (synchronized cfg h now j)).connection
  unfolding synchronized
  ok-synchronized cfg h now j p =
      next_then (too_far cfg h j) _ (ok-too_far cfg h j p)
      (λ i q. ok-fin_acked cfg now _ (ok-told_sent _ (on i (acked cfg h now i.connection)) (ok-acked cfg h now i.connection q)))

  ok-acknowledgement : (cfg : Cfg) (h : SegHead) (now : ℕ) (j : Job) → Ok k a j.connection → Ok k a (job_of (acknowledgement cfg h now j)).connection
  unfolding acknowledgement
  ok-acknowledgement cfg h now j p = next_if (is_syn_received j.connection.state) _ _ (ok-establishing h j p) (ok-synchronized cfg h now j p)

  -- ## The body: only of one that is known
  kn-delivered : (o : Octets) (w : WireNo) (j : Job) → Kn k a j.connection → Kn k a (delivered o w j).connection
  unfolding delivered
  kn-delivered o w j p = kn-job_if j.connection.shut _ _ p (kn-job_if j.connection.accepted _ _ p p)

  kn-filled : (held : List HeldSegment) (fin : Bool) (j : Job) → Kn k a j.connection → Kn k a (filled held fin j).0.connection
  unfolding filled
  kn-filled [] fin j p = p
  kn-filled (h ∷ rest) fin j p =
      kn-pair_if (nat_lt j.connection.rcv h.at) _ _ p
      (kn-pair_if (nat_le (h.at + length h.bytes) j.connection.rcv) _ _ (kn-filled rest fin (holding rest j) p)
      (kn-filled rest h.fin (delivered (rest_of h j.connection.rcv) h.w (holding rest j)) (kn-delivered (rest_of h j.connection.rcv) h.w (holding rest j) p)))

  kn-waiting : (o : Octets) (w : WireNo) (fin : Bool) (c : Connection) → Kn k a c → Kn k a (waiting o w fin c)
  unfolding waiting
  kn-waiting o w fin c p = kn_if _ _ _ p p

  kn-received : (cfg : Cfg) (o : Octets) (w : WireNo) (fin : Bool) (j : Job) → Kn k a j.connection → Kn k a (received cfg o w fin j).0.connection
  unfolding received
  kn-received cfg o w fin j p =
      kn-pair_if (o.at == j.connection.rcv) _ _ (kn-filled j.connection.held fin (delivered o w j) (kn-delivered o w j p)) (kn-waiting o w fin j.connection p)

  kn-body : (cfg : Cfg) (w : WireNo) (seg : Seg) (j : Job) → Kn k a j.connection → Kn k a (body cfg w seg j).0.connection
  unfolding body
  kn-body cfg w seg j p = kn-pair_if (not (takes_body j.connection.state)) _ _ p (kn-pair_if _ _ _ p (kn-received cfg _ w _ j p))

  first_if : (b : Bool) (x y : Job × Bool) → b ≡ true → Ok k a x.0.connection → Ok k a (if b then x else y).0.connection
  first_if true x y e p = p
  first_if false x y e p = absurd (cc)

  ok-body-none : (cfg : Cfg) (w : WireNo) (seg : Seg) (j : Job) → takes_body j.connection.state ≡ false → Ok k a j.connection → Ok k a (body cfg w seg j).0.connection
  unfolding body
  ok-body-none cfg w seg j e p = first_if (not (takes_body j.connection.state)) _ _ (ap not e) p

  ok-body : (cfg : Cfg) (w : WireNo) (seg : Seg) (j : Job) → Ok k a j.connection → Ok k a (body cfg w seg j).0.connection
  ok-body cfg w seg j p = by_test (takes_body j.connection.state) refl
    where
      by_test : (b : Bool) → takes_body j.connection.state ≡ b → Ok k a (body cfg w seg j).0.connection
      by_test true e = from_known (body cfg w seg j).0.connection (kn-body cfg w seg j (to_known j.connection (p.state (carried j.connection.state e)) p))
      by_test false e = ok-body-none cfg w seg j e p

  ok-fin_taken_in : (t : State) (cfg : Cfg) (now : ℕ) (j : Job) (w : Connection) → w.state ≡ t → Ok k a w → Ok k a (fin_taken_in t cfg now j w).connection
  ok-fin_taken_in st.Established cfg now j w e p = ok-tells (on j (record w { state = st.CloseWait })) _ (goes_on w st.Established st.CloseWait e refl p)
  ok-fin_taken_in st.FinWait1 cfg now j w e p = goes_on w st.FinWait1 st.Closing e refl p
  ok-fin_taken_in st.FinWait2 cfg now j w e p = goes_on w st.FinWait2 st.TimeWait e refl p
  ok-fin_taken_in _ cfg now j w e p = p

  ok-finished : (cfg : Cfg) (h : SegHead) (now : ℕ) (stands : Bool) (j : Job) → Ok k a j.connection → Ok k a (finished cfg h now stands j).connection
  unfolding finished fin_taken
  ok-finished cfg h now stands j p =
      job_if stands _ _ (ok-fin_taken_in j.connection.state cfg now j (past_fin j.connection) refl p) (job_if _ _ _ p p)

  ok-text_and_fin : (cfg : Cfg) (w : WireNo) (seg : Seg) (now : ℕ) (j : Job) → Ok k a j.connection → Ok k a (text_and_fin cfg w seg now j).connection
  unfolding text_and_fin
  ok-text_and_fin cfg w seg now j p = ok-finished cfg seg.head now _ _ (ok-body cfg w seg j p)

  ok-checked : (cfg : Cfg) (w : WireNo) (seg : Seg) (now : ℕ) (j : Job) → Ok k a j.connection → Ok k a (job_of (checked cfg w seg now j)).connection
  unfolding checked
  ok-checked cfg w seg now j p =
      next_then (acceptability cfg seg.head now j) _ (ok-acceptability cfg seg.head now j p) (λ b p.
      next_then (reset cfg seg.head b) _ (ok-reset cfg seg.head b p) (λ c p.
      next_then (synchronize cfg seg.head c) _ (ok-synchronize cfg seg.head c p) (λ d p.
      next_then (unacknowledged seg.head d) _ (ok-unacknowledged seg.head d p) (λ e p.
      next_then (acknowledgement cfg seg.head now e) _ (ok-acknowledgement cfg seg.head now e p) (λ i p. ok-text_and_fin cfg w seg now i p)))))

  -- ## Openings
  ok-opening : (cfg : Cfg) (h : SegHead) (now : ℕ) (j : Job) → Ok k a j.connection → Ok k a (opening cfg h now j).connection
  unfolding opening
  ok-opening cfg h now j p =
      job_if (opens h) _ _ (record { knock = p.knock; kept = p.kept; state = λ e. absurd (cc); parts = p.parts }) p

  ok-connecting : (cfg : Cfg) (now : ℕ) (j : Job) → Ok k a j.connection → Ok k a (connecting cfg now j).connection
  unfolding connecting
  ok-connecting cfg now j p = record { knock = p.knock; kept = p.kept; state = λ e. absurd (cc); parts = p.parts }

  known-right : (b : Bool) → (b || true) ≡ true
  known-right true = refl
  known-right false = refl

  ok-syn_sent : (cfg : Cfg) (h : SegHead) (j : Job) → Ok k a j.connection → Ok k a (syn_sent cfg h j).connection
  unfolding syn_sent
  ok-syn_sent cfg h j p =
      job_if (has_flag h.flags ACK && not (h.ack == number j.connection.iss 1)) _ _ (job_if (has_flag h.flags RST) _ _ p p)
      (job_if (has_flag h.flags RST) _ _ (job_if (has_flag h.flags ACK) _ _ (ok-ended j.connection p) p)
      (job_if (has_flag h.flags SYN && has_flag h.flags ACK) _ _
      (record {
        knock = p.knock;
        kept = λ _. refl;
        state = λ _. known-right j.connection.knocked;
        parts = λ e. absurd (never (j.connection.knocked || true) (known-right j.connection.knocked) e);
      }) p))

  ok-arrived_in : (t : State) (cfg : Cfg) (w : WireNo) (seg : Seg) (now : ℕ) (j : Job) → Ok k a j.connection → Ok k a (arrived_in t cfg w seg now j).connection
  ok-arrived_in st.Closed cfg w seg now j p = p
  ok-arrived_in st.Listen cfg w seg now j p = ok-opening cfg seg.head now j p
  ok-arrived_in st.SynSent cfg w seg now j p = ok-syn_sent cfg seg.head j p
  ok-arrived_in _ cfg w seg now j p = ok-checked cfg w seg now j p

  -- ## Flush and timer
  ok-resent : (cfg : Cfg) (j : Job) → Ok k a j.connection → Ok k a (resent cfg j).connection
  unfolding resent
  ok-resent cfg j p = job_if (j.connection.resend && resends j.connection.state) _ _ p p

  ok-data_sent : (cfg : Cfg) (j : Job) → Ok k a j.connection → Ok k a (data_sent cfg j).connection
  unfolding data_sent
  ok-data_sent cfg j p = job_if (sends j.connection.state) _ _ p p

  ok-fin_sent : (cfg : Cfg) (j : Job) → Ok k a j.connection → Ok k a (fin_sent cfg j).connection
  unfolding fin_sent
  ok-fin_sent cfg j p = job_if _ _ _ p p

  ok-ack_sent : (cfg : Cfg) (j : Job) → Ok k a j.connection → Ok k a (ack_sent cfg j).connection
  unfolding ack_sent
  ok-ack_sent cfg j p = job_if _ _ _ p p

  ok-armed : (cfg : Cfg) (now : ℕ) (w : Connection) → Ok k a w → Ok k a (armed cfg now w)
  unfolding armed
  ok-armed cfg now w p = ok_if _ _ _ p p

  ok-flushed : (cfg : Cfg) (now : ℕ) (j : Job) → Ok k a j.connection → Ok k a (flushed cfg now j).connection
  unfolding flushed
  ok-flushed cfg now j p =
      ok-armed cfg now _ (ok-ack_sent cfg _ (ok-fin_sent cfg _ (ok-data_sent cfg _ (ok-resent cfg j p))))

  ok-timed_out : (j : Job) → Ok k a j.connection → Ok k a (timed_out j).connection
  unfolding timed_out
  ok-timed_out j p =
      job_if (is_syn_sent j.connection.state) _ _ (ok-ended j.connection p) (ok-tells (on j (ended j.connection)) _ (ok-ended j.connection p))

  ok-collapsed_in : (t : State) (w : Connection) → Ok k a w → Ok k a (collapsed_in t w)
  ok-collapsed_in st.SynSent w p = p
  ok-collapsed_in st.SynReceived w p = p
  ok-collapsed_in _ w p = p

  ok-retransmitted : (cfg : Cfg) (now : ℕ) (j : Job) → Ok k a j.connection → Ok k a (retransmitted cfg now j).connection
  unfolding retransmitted collapsed
  ok-retransmitted cfg now j p =
      job_if (nat_le cfg.retries (j.connection.expiries + 1)) _ _ (ok-timed_out j p) (ok-collapsed_in j.connection.state j.connection p)

  ok-probed : (cfg : Cfg) (now : ℕ) (j : Job) → Ok k a j.connection → Ok k a (probed cfg now j).connection
  unfolding probed
  ok-probed cfg now j p = p

  ok-expired : (cfg : Cfg) (now : ℕ) (j : Job) → Ok k a j.connection → Ok k a (expired cfg now j).connection
  unfolding expired
  ok-expired cfg now j p =
      job_if (not (is_due j.connection.deadline now)) _ _ p
      (job_if (is_time_wait j.connection.state) _ _ (ok-ended j.connection p)
      (job_if (nat_lt j.connection.una j.connection.nxt) _ _ (ok-retransmitted cfg now j p) (ok-probed cfg now j p)))

  -- ## Calls: only of one that is known
  kn-answered : (cfg : Cfg) (ask : Ask) (j : Job) → Kn k a j.connection → Kn k a (answered cfg ask j).connection
  unfolding answered accept sendv recv_done close
  kn-answered cfg asks.Connect j p = p
  kn-answered cfg asks.Accept j p =
      kn-job_if j.connection.accepted _ _ p (record { knock = p.knock; kept = λ _. refl; known = known-right j.connection.knocked })
  kn-answered cfg (asks.Sendv bytes) j p = kn-job_if (not (j.connection.accepted && is_open j.connection.state)) _ _ p p
  kn-answered cfg (asks.RecvDone n) j p = kn-job_if (not j.connection.accepted) _ _ p (kn-job_if (nat_lt j.connection.unread n) _ _ p p)
  kn-answered cfg asks.Close j p = kn_if (persists j.connection) _ _ p p

  live-known : (b c d : Bool) → (b && c && d) ≡ true → b ≡ true
  live-known true c d e = refl
  live-known false c d e = absurd (cc)

  ok-called : (cfg : Cfg) (ask : Ask) (now : ℕ) (j : Job) → Ok k a j.connection → Ok k a (called cfg ask now j).connection
  unfolding called
  ok-called cfg ask now j p =
      job_if (is_connect ask) _ _ (job_if (is_listen j.connection.state) _ _ (ok-connecting cfg now j p) p)
      (job_where (is_live j.connection) _ _
      (λ e. from_known (answered cfg ask j).connection (kn-answered cfg ask j (to_known j.connection (live-known (j.connection.knocked || j.connection.accepted) (not j.connection.shut) (not (is_closed j.connection.state)) e) p)))
      (λ _. p))

  pub behind-step : (cfg : Cfg) (w : Connection) (i : Input) (now : ℕ) → Ok k a w → Ok k a (step cfg w i now).connection
  unfolding step stepped arrived
  behind-step cfg w (inputs.Segment n seg) now p = ok-arrived_in w.state cfg n seg now _ p
  behind-step cfg w inputs.Timer now p = job_if (is_alive w.state) _ _ (ok-expired cfg now _ p) p
  behind-step cfg w (inputs.Call ask) now p = ok-called cfg ask now _ p
  behind-step cfg w inputs.Flush now p = job_if (is_alive w.state) _ _ (ok-flushed cfg now _ p) p
