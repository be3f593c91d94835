-- What is true of a connection that ran from its beginning, over every step.
use Rattle.std.proofs.Common.{◌≡◌, ℕ, ◌+◌, ◌-◌, Bool, true, false, if◌then◌else◌, length, List, [], ◌∷◌, ◌++◌, map, refl, sym, ap, subst, ◌∙◌}
use Rattle.std.specs.Prelude.{nat_lt, nat_le, ◌&&◌, ◌||◌, ◌==◌, not, is_none, Option, Some}
use Rattle.std.specs.List.{list_all}
use Rattle.std.proofs.lemmas.Bool.{cond_both}
use Rattle.std.proofs.lemmas.List.Elements.{All-append, All-cons, All-nil}
use Rattle.ix_base.specs.declared.id.Flow.{Flow}
use Rattle.ix_base.specs.declared.id.WireNo.{WireNo}
use Rattle.ix_base.specs.declared.segment.Seg.{Seg}
use Rattle.ix_base.specs.declared.segment.SegHead.{SegHead}
use Rattle.ix_base.specs.Sequence.{number, is_past, is_at_or_past}
use Rattle.ix_base.specs.Flags.{has_flag}
use Rattle.ix_tcpdef.specs.Ticks.{later}
use Rattle.ix_tcpdef.specs.Connection.{snd_una, snd_nxt, rcv_nxt, rcv_wnd, seq_of, room, acked_data, is_listen, is_syn_sent, is_syn_received, is_time_wait, is_closed, on, gives, tells, ended}
use Rattle.ix_tcpdef.specs.Frames.{ack_frame}
use Rattle.ix_tcpdef.specs.Arrival.{Next, Goes, Stops, ◌>>=◌, job_of, span, is_acceptable, acceptability, reset, synchronize, unacknowledged}
use Rattle.ix_tcpdef.specs.Acknowledgement.{establishing, too_far, is_duplicate, duplicated, advanced, is_newer, windowed, told_sent, fin_acked_in, fin_acked, acked, synchronized, acknowledgement}
use Rattle.ix_tcpdef.specs.Body.{octets, delivered, rest_of, holding, filled, is_apart, waiting, received, takes_body, body, fin_taken_in, fin_taken, past_fin, finished, text_and_fin}
use Rattle.ix_tcpdef.specs.Opening.{opens, opening, connecting, syn_sent}
use Rattle.ix_tcpdef.specs.Calls.{is_live, as_told, accept, is_open, sendv, recv_done, closed_state, persists, close, answered, is_connect, called}
use Rattle.ix_tcpdef.specs.Flush.{unsent, resends, resent, sends, data_sent, fin_sent, ack_sent, waits_for_window, armed, flushed, is_due, timed_out, collapsed_in, collapsed, retransmitted, probed, expired}
use Rattle.ix_tcpdef.specs.Lived.{AreTold, Lived, HasLived, AllBegin, StepsLive, RunsLive}
use Rattle.ix_tcpdef.specs.Onward.{knows_peer}
use Rattle.ix_tcpdef.specs.Step.{Moment, checked, arrived_in, arrived, is_alive, stepped, step, last, listening}
use Rattle.ix_tcpdef.proofs.DeliverStep.{LetsBy, lets-acceptability, lets-reset, lets-synchronize, lets-unacknowledged, kept-listening}
use Rattle.ix_tcpdef.proofs.KeptCalls.{listen-is}
use Rattle.ix_tcpdef.proofs.OpeningLemmas.{begins_opening}
use Rattle.ix_tcpdef.specs.declared.types.Ask.{Ask}
use Rattle.ix_tcpdef.specs.declared.types.Ask.TheVariants as asks
use Rattle.ix_tcpdef.specs.declared.types.Cfg.{Cfg}
use Rattle.ix_tcpdef.specs.declared.types.Connection.{Connection}
use Rattle.ix_tcpdef.specs.declared.types.HeldSegment.{HeldSegment}
use Rattle.ix_tcpdef.specs.declared.types.Input.{Input}
use Rattle.ix_tcpdef.specs.declared.types.Input.TheVariants as inputs
use Rattle.ix_tcpdef.specs.declared.types.Job.{Job}
use Rattle.ix_tcpdef.specs.declared.types.Octets.{Octets}
use Rattle.ix_tcpdef.specs.declared.types.Piece.{Piece}
use Rattle.ix_tcpdef.specs.declared.types.State.{State}
use Rattle.ix_tcpdef.specs.declared.types.State.TheVariants as st
use Rattle.ix_tcpdef.specs.declared.types.Told.{Told}
use Rattle.ix_tcpdef.specs.declared.types.Told.TheVariants as told
use Rattle.ix_base.specs.declared.segment.TheConstants.{ACK, FIN, RST, SYN}

-- ## A connection that has not ended
record Runs (state : State) (accepted : Bool) (pieces : List Piece) : Type 0 where
  running : is_closed state ≡ false
  told : AreTold accepted pieces
  none : knows_peer state ≡ false → pieces ≡ []

abbrev Running : Connection → Type 0
Running w = Runs w.state w.accepted w.pieces

abbrev RunningAt : Job → Type 0
RunningAt j = Running j.connection

abbrev LivedAt : Job → Type 0
LivedAt j = HasLived j.connection

lived-fields : (state : State) (accepted : Bool) (pieces : List Piece) (held : List HeldSegment) (deadline : Option ℕ) → Runs state accepted pieces → Lived state accepted pieces held deadline
lived-fields state accepted pieces held deadline r =
    record {
      told = r.told;
      none = r.none;
      held = λ e. let no : false ≡ true = sym r.running ∙ e in cc;
      deadline = λ e. let no : false ≡ true = sym r.running ∙ e in cc;
    }

lived-running : (w : Connection) → Running w → HasLived w
lived-running w r = lived-fields w.state w.accepted w.pieces w.held w.deadline r

running-lived : (w : Connection) → is_closed w.state ≡ false → HasLived w → Running w
running-lived w open_yet l = record { running = open_yet; told = l.told; none = l.none }

-- another state in which the peer is known
runs-in : (state s : State) (accepted : Bool) (pieces : List Piece) → is_closed s ≡ false → knows_peer s ≡ true → Runs state accepted pieces → Runs s accepted pieces
runs-in state s accepted pieces open_yet known r =
    record { running = open_yet; told = r.told; none = λ e. let no : false ≡ true = sym e ∙ known in cc }

lived-ended : (w : Connection) → AreTold w.accepted w.pieces → HasLived (ended w)
lived-ended w t = record { told = t; none = λ e. cc; held = λ _. refl; deadline = λ _. refl }

lived-tells : (j : Job) (t : Told) → LivedAt j → LivedAt (tells j t)
lived-tells j t p = cond_both (j.connection.accepted && not j.connection.shut) _ _ LivedAt (λ _. p) (λ _. p)

running-tells : (j : Job) (t : Told) → RunningAt j → RunningAt (tells j t)
running-tells j t p = cond_both (j.connection.accepted && not j.connection.shut) _ _ RunningAt (λ _. p) (λ _. p)

-- ## The checks of a segment
-- what a part leaves: the connection runs where the segment goes on
abbrev Lives : Next → Type 0
Lives (Goes j) = RunningAt j
Lives (Stops j) = LivedAt j

record LivesOn (n : Next) : Type 0 where
  lives : Lives n

lives-then : (E : Type 0) (j : Job) (n : Next) (f : Job → Next) → LetsBy E j n → LivesOn n → (RunningAt j → LivedAt (job_of (f j))) → LivedAt (job_of (n >>= f))
lives-then E j (Goes i) f lets l more =
    subst (λ (v : Job). LivedAt (job_of (f v))) (sym lets.0) (more (subst RunningAt lets.0 l.lives))
lives-then E j (Stops i) f lets l more = l.lives

lives-acceptability : (cfg : Cfg) (h : SegHead) (now : ℕ) (j : Job) → RunningAt j → LivesOn (acceptability cfg h now j)
unfolding acceptability
lives-acceptability cfg h now j r =
    let stops : LivedAt j = lived-running j.connection r in
    cond_both (is_acceptable (span h) (rcv_wnd cfg j.connection) (seq_of j.connection h)) _ _ LivesOn (λ _. record { lives = r })
    (λ _. cond_both (has_flag h.flags RST) _ _ LivesOn (λ _. record { lives = stops })
    (λ _. cond_both (has_flag h.flags FIN && is_time_wait j.connection.state) _ _ LivesOn
    (λ _. record { lives = lived-running (record j.connection { deadline = Some (later now cfg.time_wait) }) r })
    (λ _. record { lives = stops })))

lives-reset : (cfg : Cfg) (h : SegHead) (j : Job) → RunningAt j → LivesOn (reset cfg h j)
unfolding reset
lives-reset cfg h j r =
    cond_both (not (has_flag h.flags RST)) _ _ LivesOn (λ _. record { lives = r })
    (λ _. cond_both (h.seq == rcv_nxt j.connection) _ _ LivesOn
    (λ _. record { lives = lived-tells (on j (ended j.connection)) told.DeadReset (lived-ended j.connection r.told) })
    (λ _. record { lives = lived-running j.connection r }))

lives-synchronize : (cfg : Cfg) (h : SegHead) (j : Job) → RunningAt j → LivesOn (synchronize cfg h j)
unfolding synchronize
lives-synchronize cfg h j r =
    cond_both (not (has_flag h.flags SYN)) _ _ LivesOn (λ _. record { lives = r })
    (λ _. cond_both (is_syn_received j.connection.state) _ _ LivesOn
    (λ _. record { lives = lived-ended j.connection r.told })
    (λ _. record { lives = lived-running j.connection r }))

lives-unacknowledged : (h : SegHead) (j : Job) → RunningAt j → LivesOn (unacknowledged h j)
unfolding unacknowledged
lives-unacknowledged h j r =
    cond_both (has_flag h.flags ACK) _ _ LivesOn (λ _. record { lives = r }) (λ _. record { lives = lived-running j.connection r })

-- ## The acknowledgement
lives-establishing : (h : SegHead) (j : Job) → RunningAt j → LivesOn (establishing h j)
unfolding establishing
lives-establishing h j r =
    cond_both (is_past (snd_una j.connection) h.ack && not (is_past (snd_nxt j.connection) h.ack)) _ _ LivesOn
    (λ _. record { lives = runs-in j.connection.state st.Established j.connection.accepted j.connection.pieces refl refl r })
    (λ _. record { lives = lived-running j.connection r })

running-duplicated : (h : SegHead) (w : Connection) → Running w → Running (duplicated h w)
unfolding duplicated
running-duplicated h w r =
    cond_both (not (is_duplicate h w)) _ _ Running (λ _. r)
    (λ _. cond_both w.recovering _ _ Running (λ _. r) (λ _. cond_both (w.dups == 2) _ _ Running (λ _. r) (λ _. r)))

running-advanced : (cfg : Cfg) (h : SegHead) (now : ℕ) (w : Connection) → Running w → Running (advanced cfg h now w)
unfolding advanced
running-advanced cfg h now w r = cond_both (is_past (snd_una w) h.ack) _ _ Running (λ _. r) (λ _. r)

running-windowed : (h : SegHead) (before : ℕ) (w : Connection) → Running w → Running (windowed h before w)
unfolding windowed
running-windowed h before w r =
    cond_both (not (is_at_or_past before h.ack && is_newer h w)) _ _ Running (λ _. r)
    (λ _. cond_both (nat_lt 0 h.window && (w.una == w.nxt)) _ _ Running (λ _. r) (λ _. r))

running-told_sent : (n : ℕ) (j : Job) → RunningAt j → RunningAt (told_sent n j)
unfolding told_sent
running-told_sent n j r =
    cond_both (nat_lt 0 n || (j.connection.wants && nat_lt 0 (room j.connection))) _ _ RunningAt
    (λ _. running-tells (on j (record j.connection { wants = false })) (told.Sent n (room j.connection)) r)
    (λ _. r)

lives-fin_acked_in : (s : State) (cfg : Cfg) (now : ℕ) (j : Job) → RunningAt j → LivesOn (fin_acked_in s cfg now j)
lives-fin_acked_in st.FinWait1 cfg now j r = record { lives = runs-in j.connection.state st.FinWait2 j.connection.accepted j.connection.pieces refl refl r }
lives-fin_acked_in st.Closing cfg now j r = record { lives = runs-in j.connection.state st.TimeWait j.connection.accepted j.connection.pieces refl refl r }
lives-fin_acked_in st.LastAck cfg now j r = record { lives = lived-ended j.connection r.told }
lives-fin_acked_in _ cfg now j r = record { lives = r }

lives-fin_acked : (cfg : Cfg) (now : ℕ) (j : Job) → RunningAt j → LivesOn (fin_acked cfg now j)
unfolding fin_acked
lives-fin_acked cfg now j r =
    cond_both (j.connection.fin_sent && (j.connection.una == j.connection.nxt)) _ _ LivesOn (λ _. lives-fin_acked_in j.connection.state cfg now j r) (λ _. record { lives = r })

lives-synchronized : (cfg : Cfg) (h : SegHead) (now : ℕ) (j : Job) → RunningAt j → LivesOn (synchronized cfg h now j)
unfolding synchronized too_far
lives-synchronized cfg h now j r = by_test (is_past (snd_nxt j.connection) h.ack)
  where
    by_test : (a : Bool) → LivesOn ((if a then Stops (gives j (ack_frame cfg j.connection)) else Goes j) >>= (λ j. fin_acked cfg now (told_sent (acked_data (acked cfg h now j.connection) - acked_data j.connection) (on j (acked cfg h now j.connection)))))
    by_test true = record { lives = lived-running j.connection r }
    by_test false =
        lives-fin_acked cfg now _ (running-told_sent _ (on j (acked cfg h now j.connection)) (running-windowed h (snd_una j.connection) _ (running-advanced cfg h now _ (running-duplicated h j.connection r))))

lives-acknowledgement : (cfg : Cfg) (h : SegHead) (now : ℕ) (j : Job) → RunningAt j → LivesOn (acknowledgement cfg h now j)
unfolding acknowledgement
lives-acknowledgement cfg h now j r =
    cond_both (is_syn_received j.connection.state) _ _ LivesOn (λ _. lives-establishing h j r) (λ _. lives-synchronized cfg h now j r)

-- ## The body and the FIN
told-more : (accepted : Bool) (pieces : List Piece) (p : Piece) → p.told ≡ accepted → AreTold accepted pieces → AreTold accepted (pieces ++ p ∷ [])
told-more accepted pieces p one t =
    All-append (λ (q : Piece). q.told ≡ accepted) pieces (p ∷ []) t (All-cons (λ (q : Piece). q.told ≡ accepted) p [] one (All-nil (λ (q : Piece). q.told ≡ accepted)))

running-delivered : (o : Octets) (w : WireNo) (j : Job) → knows_peer j.connection.state ≡ true → RunningAt j → RunningAt (delivered o w j)
unfolding delivered
running-delivered o w j known r =
    let p : Piece = record { w = w; from = o.from; bytes = o.bytes; told = j.connection.accepted } in
    let more : Runs j.connection.state j.connection.accepted (j.connection.pieces ++ record { w = w; from = o.from; bytes = o.bytes; told = j.connection.accepted } ∷ []) =
    record { running = r.running; told = told-more j.connection.accepted j.connection.pieces _ refl r.told; none = λ e. let no : false ≡ true = sym e ∙ known in cc } in
    cond_both j.connection.shut _ _ RunningAt (λ _. r) (λ _. cond_both j.connection.accepted _ _ RunningAt (λ _. more) (λ _. more))

known-delivered : (o : Octets) (w : WireNo) (j : Job) → knows_peer j.connection.state ≡ true → knows_peer (delivered o w j).connection.state ≡ true
unfolding delivered
known-delivered o w j known =
    let P : Job → Type 0 = λ r. knows_peer r.connection.state ≡ true in
    cond_both j.connection.shut _ _ P (λ _. known) (λ _. cond_both j.connection.accepted _ _ P (λ _. known) (λ _. known))

running-filled : (ss : List HeldSegment) (fin : Bool) (j : Job) → knows_peer j.connection.state ≡ true → RunningAt j → RunningAt (filled ss fin j).0
unfolding filled
running-filled [] fin j known r = r
running-filled (s ∷ rest) fin j known r =
    let P : Job × Bool → Type 0 = λ v. RunningAt v.0 in
    cond_both (nat_lt j.connection.rcv s.at) _ _ P (λ _. r)
    (λ _. cond_both (nat_le (s.at + length s.bytes) j.connection.rcv) _ _ P
    (λ _. running-filled rest fin (holding rest j) known r)
    (λ _. running-filled rest s.fin (delivered (rest_of s j.connection.rcv) s.w (holding rest j))
    (known-delivered (rest_of s j.connection.rcv) s.w (holding rest j) known)
    (running-delivered (rest_of s j.connection.rcv) s.w (holding rest j) known r)))

running-waiting : (o : Octets) (w : WireNo) (fin : Bool) (c : Connection) → Running c → Running (waiting o w fin c)
unfolding waiting
running-waiting o w fin c r = cond_both (nat_lt (length c.held) 8 && list_all (is_apart o) c.held) _ _ Running (λ _. r) (λ _. r)

takes_body-knows : (s : State) → takes_body s ≡ true → knows_peer s ≡ true
takes_body-knows st.Listen e = cc
takes_body-knows st.SynSent e = cc
takes_body-knows _ e = refl

is_set : (b : Bool) → not b ≡ false → b ≡ true
is_set true e = refl
is_set false e = cc

running-body : (cfg : Cfg) (w : WireNo) (seg : Seg) (j : Job) → RunningAt j → RunningAt (body cfg w seg j).0
unfolding body received
running-body cfg w seg j r =
    let P : Job × Bool → Type 0 = λ v. RunningAt v.0 in
    let o : Octets = octets j.connection.rcv (rcv_wnd cfg j.connection) (seq_of j.connection seg.head) seg.head.at seg.body in
    cond_both (not (takes_body j.connection.state)) _ _ P (λ _. r)
    (λ takes. cond_both (length o.bytes == 0) _ _ P (λ _. r)
    (λ _. cond_both (o.at == j.connection.rcv) _ _ P
    (λ _.
    let known : knows_peer j.connection.state ≡ true = takes_body-knows j.connection.state (is_set (takes_body j.connection.state) takes) in
    running-filled j.connection.held _ (delivered o w j) (known-delivered o w j known) (running-delivered o w j known r))
    (λ _. running-waiting o w _ j.connection r)))

running-fin_taken_in : (s : State) (cfg : Cfg) (now : ℕ) (j : Job) → RunningAt j → RunningAt (fin_taken_in s cfg now j (past_fin j.connection))
running-fin_taken_in st.Established cfg now j r =
    running-tells (on j (record (past_fin j.connection) { state = st.CloseWait })) told.RecvEnd (runs-in j.connection.state st.CloseWait j.connection.accepted j.connection.pieces refl refl r)
running-fin_taken_in st.FinWait1 cfg now j r = runs-in j.connection.state st.Closing j.connection.accepted j.connection.pieces refl refl r
running-fin_taken_in st.FinWait2 cfg now j r = runs-in j.connection.state st.TimeWait j.connection.accepted j.connection.pieces refl refl r
running-fin_taken_in _ cfg now j r = r

running-finished : (cfg : Cfg) (h : SegHead) (now : ℕ) (stands : Bool) (j : Job) → RunningAt j → RunningAt (finished cfg h now stands j)
unfolding finished fin_taken
running-finished cfg h now stands j r =
    cond_both stands _ _ RunningAt (λ _. running-fin_taken_in j.connection.state cfg now j r)
    (λ _. cond_both (has_flag h.flags FIN && (h.len == 0) && is_past (rcv_nxt j.connection) h.seq) _ _ RunningAt (λ _. r) (λ _. r))

running-text_and_fin : (cfg : Cfg) (w : WireNo) (seg : Seg) (now : ℕ) (j : Job) → RunningAt j → RunningAt (text_and_fin cfg w seg now j)
unfolding text_and_fin
running-text_and_fin cfg w seg now j r = running-finished cfg seg.head now _ _ (running-body cfg w seg j r)

lives-last : (cfg : Cfg) (w : WireNo) (seg : Seg) (now : ℕ) (n : Next) → LivesOn n → LivedAt (job_of (n >>= (λ j. Goes (text_and_fin cfg w seg now j))))
lives-last cfg w seg now (Goes j) l = lived-running (text_and_fin cfg w seg now j).connection (running-text_and_fin cfg w seg now j l.lives)
lives-last cfg w seg now (Stops j) l = l.lives

lived-checked : (cfg : Cfg) (w : WireNo) (seg : Seg) (now : ℕ) (j : Job) → RunningAt j → LivedAt (job_of (checked cfg w seg now j))
unfolding checked
lived-checked cfg w seg now j r =
    lives-then (Unit {0}) j (acceptability cfg seg.head now j) _ (lets-acceptability cfg seg.head now j) (lives-acceptability cfg seg.head now j r) (λ r.
    lives-then (Unit {0}) j (reset cfg seg.head j) _ (lets-reset cfg seg.head j) (lives-reset cfg seg.head j r) (λ r.
    lives-then (has_flag seg.head.flags SYN ≡ false) j (synchronize cfg seg.head j) _ (lets-synchronize cfg seg.head j) (lives-synchronize cfg seg.head j r) (λ r.
    lives-then (Unit {0}) j (unacknowledged seg.head j) _ (lets-unacknowledged seg.head j) (lives-unacknowledged seg.head j r) (λ r.
    lives-last cfg w seg now (acknowledgement cfg seg.head now j) (lives-acknowledgement cfg seg.head now j r)))))

-- ## Openings
lived-opening : (cfg : Cfg) (h : SegHead) (now : ℕ) (j : Job) → j.connection.state ≡ st.Listen → LivedAt j → LivedAt (opening cfg h now j)
unfolding opening
lived-opening cfg h now j is l =
    cond_both (opens h) _ _ LivedAt (λ _. record { told = l.told; none = λ e. cc; held = λ e. cc; deadline = λ e. cc }) (λ _. l)

all-none : (accepted : Bool) (pieces : List Piece) → pieces ≡ [] → AreTold accepted pieces
all-none accepted pieces e = subst (AreTold accepted) (sym e) (All-nil (λ (q : Piece). q.told ≡ accepted))

lived-syn_sent : (cfg : Cfg) (h : SegHead) (j : Job) → j.connection.state ≡ st.SynSent → LivedAt j → LivedAt (syn_sent cfg h j)
unfolding syn_sent
lived-syn_sent cfg h j is l =
    let none : j.connection.pieces ≡ [] = l.none (ap knows_peer is) in
    cond_both (has_flag h.flags ACK && not (h.ack == number j.connection.iss 1)) _ _ LivedAt
    (λ _. cond_both (has_flag h.flags RST) _ _ LivedAt (λ _. l) (λ _. l))
    (λ _. cond_both (has_flag h.flags RST) _ _ LivedAt
    (λ _. cond_both (has_flag h.flags ACK) _ _ LivedAt (λ _. lived-ended j.connection l.told) (λ _. l))
    (λ _. cond_both (has_flag h.flags SYN && has_flag h.flags ACK) _ _ LivedAt
    (λ _. record { told = all-none true j.connection.pieces none; none = λ e. cc; held = λ e. cc; deadline = λ e. cc })
    (λ _. l)))

lived-arrived_in : (s : State) (cfg : Cfg) (w : WireNo) (seg : Seg) (now : ℕ) (j : Job) → j.connection.state ≡ s → LivedAt j → LivedAt (arrived_in s cfg w seg now j)
lived-arrived_in st.Closed cfg w seg now j is l = l
lived-arrived_in st.Listen cfg w seg now j is l = lived-opening cfg seg.head now j is l
lived-arrived_in st.SynSent cfg w seg now j is l = lived-syn_sent cfg seg.head j is l
lived-arrived_in _ cfg w seg now j is l = lived-checked cfg w seg now j (running-lived j.connection (ap is_closed is) l)

-- ## Calls
all-told : (pieces : List Piece) → AreTold true (map as_told pieces)
all-told [] = All-nil (λ (q : Piece). q.told ≡ true)
all-told (p ∷ ps) = All-cons (λ (q : Piece). q.told ≡ true) (as_told p) (map as_told ps) refl (all-told ps)

running-accept : (j : Job) → RunningAt j → RunningAt (accept j)
unfolding accept
running-accept j r =
    cond_both j.connection.accepted _ _ RunningAt (λ _. r)
    (λ _. record { running = r.running; told = all-told j.connection.pieces; none = λ e. ap (map as_told) (r.none e) })

closed-closed : (s : State) → is_closed (closed_state s) ≡ is_closed s
closed-closed st.Established = refl
closed-closed st.CloseWait = refl
closed-closed _ = refl

closed-knows : (s : State) → knows_peer (closed_state s) ≡ knows_peer s
closed-knows st.Established = refl
closed-knows st.CloseWait = refl
closed-knows _ = refl

running-close : (j : Job) → RunningAt j → RunningAt (close j)
unfolding close
running-close j r =
    let shut : Runs (closed_state j.connection.state) j.connection.accepted j.connection.pieces =
    record { running = closed-closed j.connection.state ∙ r.running; told = r.told; none = λ e. r.none (sym (closed-knows j.connection.state) ∙ e) } in
    cond_both (persists j.connection) _ _ Running (λ _. shut) (λ _. shut)

running-answered : (cfg : Cfg) (ask : Ask) (j : Job) → RunningAt j → RunningAt (answered cfg ask j)
unfolding answered sendv recv_done
running-answered cfg asks.Connect j r = r
running-answered cfg asks.Accept j r = running-accept j r
running-answered cfg (asks.Sendv bytes) j r = cond_both (not (j.connection.accepted && is_open j.connection.state)) _ _ RunningAt (λ _. r) (λ _. r)
running-answered cfg (asks.RecvDone n) j r =
    cond_both (not j.connection.accepted) _ _ RunningAt (λ _. r) (λ _. cond_both (nat_lt j.connection.unread n) _ _ RunningAt (λ _. r) (λ _. r))
running-answered cfg asks.Close j r = running-close j r

live-open : (a b c : Bool) → (a && not b && not c) ≡ true → c ≡ false
live-open true false false e = refl
live-open true false true e = cc
live-open true true c e = cc
live-open false b c e = cc

lived-called : (cfg : Cfg) (ask : Ask) (now : ℕ) (j : Job) → LivedAt j → LivedAt (called cfg ask now j)
unfolding called connecting
lived-called cfg ask now j l =
    cond_both (is_connect ask) _ _ LivedAt
    (λ _. cond_both (is_listen j.connection.state) _ _ LivedAt
    (λ listens. record { told = l.told; none = λ _. l.none (ap knows_peer (listen-is j.connection.state listens)); held = λ e. cc; deadline = λ e. cc })
    (λ _. l))
    (λ _. cond_both (is_live j.connection) _ _ LivedAt
    (λ live. lived-running (answered cfg ask j).connection
    (running-answered cfg ask j (running-lived j.connection (live-open (j.connection.knocked || j.connection.accepted) j.connection.shut (is_closed j.connection.state) live) l)))
    (λ _. l))

-- ## What is sent
running-resent : (cfg : Cfg) (j : Job) → RunningAt j → RunningAt (resent cfg j)
unfolding resent
running-resent cfg j r = cond_both (j.connection.resend && resends j.connection.state) _ _ RunningAt (λ _. r) (λ _. r)

running-data_sent : (cfg : Cfg) (j : Job) → RunningAt j → RunningAt (data_sent cfg j)
unfolding data_sent
running-data_sent cfg j r = cond_both (sends j.connection.state) _ _ RunningAt (λ _. r) (λ _. r)

running-fin_sent : (cfg : Cfg) (j : Job) → RunningAt j → RunningAt (fin_sent cfg j)
unfolding fin_sent
running-fin_sent cfg j r =
    cond_both (sends j.connection.state && j.connection.fin_wanted && not j.connection.fin_sent && (length (unsent j.connection) == 0)) _ _ RunningAt (λ _. r) (λ _. r)

running-ack_sent : (cfg : Cfg) (j : Job) → RunningAt j → RunningAt (ack_sent cfg j)
unfolding ack_sent
running-ack_sent cfg j r = cond_both (j.connection.ack_owed && (length j.outputs == 0)) _ _ RunningAt (λ _. r) (λ _. r)

running-armed : (cfg : Cfg) (now : ℕ) (w : Connection) → Running w → Running (armed cfg now w)
unfolding armed
running-armed cfg now w r =
    cond_both (is_none w.deadline && (nat_lt w.una w.nxt || ((w.una == w.nxt) && waits_for_window w))) _ _ Running (λ _. r) (λ _. r)

running-flushed : (cfg : Cfg) (now : ℕ) (j : Job) → RunningAt j → RunningAt (flushed cfg now j)
unfolding flushed
running-flushed cfg now j r = running-armed cfg now _ (running-ack_sent cfg _ (running-fin_sent cfg _ (running-data_sent cfg _ (running-resent cfg j r))))

lived-timed_out : (j : Job) → RunningAt j → LivedAt (timed_out j)
unfolding timed_out
lived-timed_out j r =
    cond_both (is_syn_sent j.connection.state) _ _ LivedAt
    (λ _. lived-ended j.connection r.told)
    (λ _. lived-tells (on j (ended j.connection)) told.DeadTimeout (lived-ended j.connection r.told))

running-collapsed_in : (s : State) (w : Connection) → Running w → Running (collapsed_in s w)
running-collapsed_in st.SynSent w r = r
running-collapsed_in st.SynReceived w r = r
running-collapsed_in _ w r = r

lived-retransmitted : (cfg : Cfg) (now : ℕ) (j : Job) → RunningAt j → LivedAt (retransmitted cfg now j)
unfolding retransmitted collapsed
lived-retransmitted cfg now j r =
    cond_both (nat_le cfg.retries (j.connection.expiries + 1)) _ _ LivedAt (λ _. lived-timed_out j r)
    (λ _. lived-fields _ _ _ _ _ (running-collapsed_in j.connection.state j.connection r))

lived-expired : (cfg : Cfg) (now : ℕ) (j : Job) → RunningAt j → LivedAt (expired cfg now j)
unfolding expired probed
lived-expired cfg now j r =
    cond_both (not (is_due j.connection.deadline now)) _ _ LivedAt (λ _. lived-running j.connection r)
    (λ _. cond_both (is_time_wait j.connection.state) _ _ LivedAt (λ _. lived-ended j.connection r.told)
    (λ _. cond_both (nat_lt j.connection.una j.connection.nxt) _ _ LivedAt (λ _. lived-retransmitted cfg now j r) (λ _. lived-fields _ _ _ _ _ r)))

-- ## A step and a run
alive-open : (s : State) → is_alive s ≡ true → is_closed s ≡ false
alive-open st.Closed e = cc
alive-open _ e = refl

lived-stepped : (cfg : Cfg) (i : Input) (now : ℕ) (j : Job) → LivedAt j → LivedAt (stepped cfg i now j)
unfolding stepped arrived
lived-stepped cfg (inputs.Segment w seg) now j l = lived-arrived_in j.connection.state cfg w seg now j refl l
lived-stepped cfg inputs.Timer now j l =
    cond_both (is_alive j.connection.state) _ _ LivedAt (λ alive. lived-expired cfg now j (running-lived j.connection (alive-open j.connection.state alive) l)) (λ _. l)
lived-stepped cfg (inputs.Call ask) now j l = lived-called cfg ask now j l
lived-stepped cfg inputs.Flush now j l =
    cond_both (is_alive j.connection.state) _ _ LivedAt
    (λ alive. lived-running (flushed cfg now j).connection (running-flushed cfg now j (running-lived j.connection (alive-open j.connection.state alive) l)))
    (λ _. l)

pub steps_live : StepsLive
unfolding step
steps_live cfg w input now l = lived-stepped cfg input now (record { connection = w; outputs = [] }) l

lived-listening : (flow : Flow) (peer_mac : List ℕ) (iss : ℕ) → HasLived (listening flow peer_mac iss)
lived-listening flow peer_mac iss = record { told = All-nil (λ (q : Piece). q.told ≡ false); none = λ _. refl; held = λ _. refl; deadline = λ _. refl }

lived-run : (cfg : Cfg) (ms : List Moment) (w : Connection) → HasLived w → HasLived (last cfg w ms)
lived-run cfg [] w l = l
lived-run cfg (m ∷ ms) w l = lived-run cfg ms (step cfg w m.input m.clock).connection (steps_live cfg w m.input m.clock l)

pub runs_live : RunsLive
runs_live cfg flow peer_mac iss ms = lived-run cfg ms (listening flow peer_mac iss) (lived-listening flow peer_mac iss)

pub all_begin : AllBegin
all_begin cfg flow peer_mac iss =
    record { kept = kept-listening cfg flow peer_mac iss; opened = begins_opening flow peer_mac iss; lived = lived-listening flow peer_mac iss }
