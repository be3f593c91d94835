-- Where the positions of a connection stand behind a step, by its state.
use Rattle.std.proofs.Common.{◌≡◌, ℕ, ◌+◌, ◌-◌, ◌^◌, ◌<◌, ◌≤◌, Bool, true, false, if◌then◌else◌, List, [], ◌∷◌, ◌++◌, length, refl, ap, sym, ◌∙◌, subst}
use Rattle.std.specs.Prelude.{nat_lt, nat_le, ◌&&◌, ◌||◌, ◌==◌, not, is_none, Some, None}
use Rattle.std.proofs.lemmas.Bool.{cases_Bool}
use Rattle.ix_base.specs.declared.segment.Seg.{Seg}
use Rattle.ix_base.specs.declared.segment.SegHead.{SegHead}
use Rattle.ix_base.specs.declared.segment.Ret.TheVariants as rets
use Rattle.ix_base.specs.declared.id.WireNo.{WireNo}
use Rattle.ix_base.specs.Flags.{has_flag}
use Rattle.ix_base.specs.Sequence.{number, ahead}
use Rattle.ix_tcpdef.specs.Connection.{snd_una, snd_nxt, rcv_nxt, is_listen, is_syn_sent, is_time_wait, is_closed, on, gives, tells, ended}
use Rattle.ix_tcpdef.specs.Calls.{is_live, is_connect, returns, answered, called}
use Rattle.ix_tcpdef.specs.Flush.{unsent, resends, resent, sends, sendable, data_frames, data_sent, fin_sent, ack_sent, waits_for_window, armed, flushed, is_due, timed_out, collapsed_in, collapsed, retransmitted, probed, expired, first_unacked, backed_off}
use Rattle.ix_tcpdef.specs.Ticks.{later}
use Rattle.ix_tcpdef.specs.Frames.{fin_frame, ack_frame, reset_frame, syn_frame, syn_ack_frame}
use Rattle.ix_tcpdef.specs.Onward.{knows_peer, MovesOn, GoesOnward, StepsGoOnward, FollowsNumbers}
use Rattle.ix_tcpdef.specs.Opening.{opens, passive, opening, active, connecting, connected, syn_sent}
use Rattle.ix_tcpdef.specs.Sound.{IsKept, IsSound, IsWritten, HasWindow, is_unknown}
use Rattle.ix_tcpdef.specs.Stands.{tcb_of, StandsFor}
use Rattle.ix_tcpdef.specs.Step.{arrived_in, arrived, is_alive, stepped, step}
use Rattle.ix_tcpdef.specs.declared.types.Ask.{Ask}
use Rattle.ix_tcpdef.specs.declared.types.Ask.TheVariants as asks
use Rattle.ix_tcpdef.specs.declared.types.Cfg.{Cfg}
use Rattle.ix_tcpdef.specs.declared.types.Connection.{Connection}
use Rattle.ix_tcpdef.specs.declared.types.Input.{Input}
use Rattle.ix_tcpdef.specs.declared.types.Input.TheVariants as inputs
use Rattle.ix_tcpdef.specs.declared.types.Job.{Job}
use Rattle.ix_tcpdef.specs.declared.types.Output.TheVariants as outputs
use Rattle.ix_tcpdef.specs.declared.types.State.{State}
use Rattle.ix_tcpdef.specs.declared.types.State.TheVariants as st
use Rattle.ix_tcpdef.specs.declared.types.Told.TheVariants as told
use Rattle.ix_tcpdef.specs.declared.types.Tcb.{Tcb}
use Rattle.ix_base.specs.declared.segment.TheConstants.{ACK, RST, SYN}
use Rattle.ix_positions.specs.declared.positions.Positions.{Positions}
use Rattle.ix_positions.specs.Positions.{positions_of, is_established, opened_in, further_in, further}

abbrev pub start : Connection → Job
start w = record { connection = w; outputs = [] }

-- ## Before an opening
-- What a step in LISTEN leaves: the positions are those of the state then.
abbrev pub IsOpenedIn : Connection → Connection → Type 0
IsOpenedIn w v = positions_of v ≡ opened_in v.state (positions_of w)

waits : (w : Connection) → w.state ≡ st.Listen → IsOpenedIn w w
waits w e = sym (ap (λ (s : State). opened_in s (positions_of w)) e)

opened-segment : (cfg : Cfg) (seg : Seg) (now : ℕ) (w : Connection) → w.state ≡ st.Listen → IsOpenedIn w (opening cfg seg.head now (start w)).connection
unfolding opening
opened-segment cfg seg now w e = by_test (opens seg.head)
  where
    by_test : (b : Bool) → IsOpenedIn w (if b then gives (on (start w) (passive cfg seg.head now w)) (syn_ack_frame cfg (passive cfg seg.head now w)) else start w).connection
    by_test true = refl
    by_test false = waits w e

opened-call : (cfg : Cfg) (ask : Ask) (now : ℕ) (w : Connection) → w.state ≡ st.Listen → is_live w ≡ false → IsOpenedIn w (called cfg ask now (start w)).connection
unfolding called connecting
opened-call cfg ask now w e dead = by_tests (is_connect ask) (is_listen w.state) (is_live w) dead
  where
    by_tests : (a b c : Bool) → c ≡ false → IsOpenedIn w (if a then (if b then gives (on (start w) (active cfg now w)) (syn_frame cfg (active cfg now w)) else start w) else if c then answered cfg ask (start w) else returns (start w) rets.BadHandle).connection
    by_tests true true c d = refl
    by_tests true false c d = waits w e
    by_tests false b true d = absurd (cc)
    by_tests false b false d = waits w e

-- an application knows of no connection before its handshake
dead_of : (w : Connection) → is_unknown w.state ≡ true → IsSound w → is_live w ≡ false
dead_of w e s = ap (λ (b : Bool). b && not w.shut && not (is_closed w.state)) (s.unknown e)

pub opened-step : (cfg : Cfg) (input : Input) (now : ℕ) (w : Connection) → w.state ≡ st.Listen → IsSound w → IsOpenedIn w (step cfg w input now).connection
unfolding step stepped arrived
opened-step cfg (inputs.Segment n seg) now w e s =
    subst (λ (x : State). IsOpenedIn w (arrived_in x cfg n seg now (start w)).connection) (sym e) (opened-segment cfg seg now w e)
opened-step cfg inputs.Timer now w e s =
    subst (λ (x : State). IsOpenedIn w (if is_alive x then expired cfg now (start w) else start w).connection) (sym e) (waits w e)
opened-step cfg (inputs.Call ask) now w e s = opened-call cfg ask now w e (dead_of w (ap is_unknown e) s)
opened-step cfg inputs.Flush now w e s =
    subst (λ (x : State). IsOpenedIn w (if is_alive x then flushed cfg now (start w) else start w).connection) (sym e) (waits w e)

-- ## In SYN-SENT
-- The peer's numbers are unknown, or its SYN came and the connection is established.
abbrev pub IsAnswered : Connection → Connection → Type 0
IsAnswered w v = v.rcv ≡ (if is_established v.state then 1 else w.rcv)

-- a step that leaves the state and the positions of the peer's stream, but for the end of the connection
record KeepsPeer (w v : Connection) : Type 0 where
  rcv : v.rcv ≡ w.rcv
  quiet : is_established w.state ≡ false → is_established v.state ≡ false

answered_by : (w v : Connection) → w.state ≡ st.SynSent → KeepsPeer w v → IsAnswered w v
answered_by w v e k =
    k.rcv ∙ sym (ap (λ (b : Bool). if b then 1 else w.rcv) (k.quiet (ap is_established e)))

keeps-self : (w : Connection) → KeepsPeer w w
keeps-self w = record { rcv = refl; quiet = λ q. q }

answered-segment : (cfg : Cfg) (h : SegHead) (w : Connection) → w.state ≡ st.SynSent → IsAnswered w (syn_sent cfg h (start w)).connection
unfolding syn_sent
answered-segment cfg h w e =
    by_tests (has_flag h.flags ACK && not (h.ack == number w.iss 1)) (has_flag h.flags RST) (has_flag h.flags ACK) (has_flag h.flags SYN && has_flag h.flags ACK)
  where
    stays : IsAnswered w w
    stays = answered_by w w e (keeps-self w)

    by_tests : (a b c d : Bool) → IsAnswered w (if a then (if b then start w else gives (start w) (reset_frame w h)) else if b then (if c then gives (on (start w) (ended w)) (outputs.Told told.ConnectedRefused) else start w) else if d then gives (on (start w) (connected cfg h w)) (outputs.Told told.ConnectedUp) else start w).connection
    by_tests true true c d = stays
    by_tests true false c d = stays
    by_tests false true true d = refl
    by_tests false true false d = stays
    by_tests false false c true = refl
    by_tests false false c false = stays

-- the timer
keeps-timed_out : (j : Job) → KeepsPeer j.connection (timed_out j).connection
unfolding timed_out
keeps-timed_out j = by_tests (is_syn_sent j.connection.state) (j.connection.accepted && not j.connection.shut)
  where
    by_tests : (a b : Bool) → KeepsPeer j.connection (if a then gives (on j (ended j.connection)) (outputs.Told told.ConnectedTimeout) else if b then gives (on j (ended j.connection)) (outputs.Told told.DeadTimeout) else on j (ended j.connection)).connection
    by_tests true b = record { rcv = refl; quiet = λ q. refl }
    by_tests false true = record { rcv = refl; quiet = λ q. refl }
    by_tests false false = record { rcv = refl; quiet = λ q. refl }

keeps-collapsed_in : (s : State) (w : Connection) → ((collapsed_in s w).rcv ≡ w.rcv) × ((collapsed_in s w).state ≡ w.state)
keeps-collapsed_in st.SynSent w = (refl, refl)
keeps-collapsed_in st.SynReceived w = (refl, refl)
keeps-collapsed_in _ w = (refl, refl)

keeps-retransmitted : (cfg : Cfg) (now : ℕ) (j : Job) → KeepsPeer j.connection (retransmitted cfg now j).connection
unfolding retransmitted collapsed
keeps-retransmitted cfg now j = by_test (nat_le cfg.retries (j.connection.expiries + 1))
  where
    by_test : (b : Bool) → KeepsPeer j.connection (if b then timed_out j else (let expiries : ℕ = j.connection.expiries + 1 in let w : Connection = record (collapsed j.connection) { expiries = expiries; deadline = Some (later now (backed_off cfg expiries)) } in gives (on j w) (first_unacked cfg w))).connection
    by_test true = keeps-timed_out j
    by_test false = record {
      rcv = (keeps-collapsed_in j.connection.state j.connection).0;
      quiet = λ q. ap is_established (keeps-collapsed_in j.connection.state j.connection).1 ∙ q;
    }

keeps-probed : (cfg : Cfg) (now : ℕ) (j : Job) → KeepsPeer j.connection (probed cfg now j).connection
unfolding probed
keeps-probed cfg now j = record { rcv = refl; quiet = λ q. q }

keeps-expired : (cfg : Cfg) (now : ℕ) (j : Job) → KeepsPeer j.connection (expired cfg now j).connection
unfolding expired
keeps-expired cfg now j = by_tests (not (is_due j.connection.deadline now)) (is_time_wait j.connection.state) (nat_lt j.connection.una j.connection.nxt)
  where
    by_tests : (a b c : Bool) → KeepsPeer j.connection (if a then j else if b then on j (ended j.connection) else if c then retransmitted cfg now j else probed cfg now j).connection
    by_tests true b c = record { rcv = refl; quiet = λ q. q }
    by_tests false true c = record { rcv = refl; quiet = λ q. refl }
    by_tests false false true = keeps-retransmitted cfg now j
    by_tests false false false = keeps-probed cfg now j

-- the end of a cycle
record KeepsState (w v : Connection) : Type 0 where
  rcv : v.rcv ≡ w.rcv
  state : v.state ≡ w.state

then_keeps : (a b c : Connection) → KeepsState a b → KeepsState b c → KeepsState a c
then_keeps a b c p q = record { rcv = q.rcv ∙ p.rcv; state = q.state ∙ p.state }

keeps-resent : (cfg : Cfg) (j : Job) → KeepsState j.connection (resent cfg j).connection
unfolding resent
keeps-resent cfg j = by_test (j.connection.resend && resends j.connection.state)
  where
    by_test : (b : Bool) → KeepsState j.connection (if b then gives (on j (record j.connection { resend = false })) (first_unacked cfg j.connection) else j).connection
    by_test true = record { rcv = refl; state = refl }
    by_test false = record { rcv = refl; state = refl }

keeps-data_sent : (cfg : Cfg) (j : Job) → KeepsState j.connection (data_sent cfg j).connection
unfolding data_sent
keeps-data_sent cfg j = by_test (sends j.connection.state)
  where
    by_test : (b : Bool) → KeepsState j.connection (if b then (let bytes : List ℕ = sendable j.connection in record { connection = record j.connection { nxt = j.connection.nxt + length bytes }; outputs = j.outputs ++ data_frames cfg j.connection (length bytes) j.connection.nxt bytes }) else j).connection
    by_test true = record { rcv = refl; state = refl }
    by_test false = record { rcv = refl; state = refl }

keeps-fin_sent : (cfg : Cfg) (j : Job) → KeepsState j.connection (fin_sent cfg j).connection
unfolding fin_sent
keeps-fin_sent cfg j = by_test (sends j.connection.state && j.connection.fin_wanted && not j.connection.fin_sent && (length (unsent j.connection) == 0))
  where
    by_test : (b : Bool) → KeepsState j.connection (if b then gives (on j (record j.connection { nxt = j.connection.nxt + 1; fin_sent = true })) (fin_frame cfg j.connection j.connection.nxt) else j).connection
    by_test true = record { rcv = refl; state = refl }
    by_test false = record { rcv = refl; state = refl }

keeps-ack_sent : (cfg : Cfg) (j : Job) → KeepsState j.connection (ack_sent cfg j).connection
unfolding ack_sent
keeps-ack_sent cfg j = by_test (j.connection.ack_owed && (length j.outputs == 0))
  where
    by_test : (b : Bool) → KeepsState j.connection (if b then gives (on j (record j.connection { ack_owed = false })) (ack_frame cfg j.connection) else on j (record j.connection { ack_owed = false })).connection
    by_test true = record { rcv = refl; state = refl }
    by_test false = record { rcv = refl; state = refl }

keeps-armed : (cfg : Cfg) (now : ℕ) (w : Connection) → KeepsState w (armed cfg now w)
unfolding armed
keeps-armed cfg now w = by_test (is_none w.deadline && (nat_lt w.una w.nxt || ((w.una == w.nxt) && waits_for_window w)))
  where
    by_test : (b : Bool) → KeepsState w (if b then record w { deadline = Some (later now cfg.rto) } else w)
    by_test true = record { rcv = refl; state = refl }
    by_test false = record { rcv = refl; state = refl }

keeps-flushed : (cfg : Cfg) (now : ℕ) (j : Job) → KeepsState j.connection (flushed cfg now j).connection
unfolding flushed
keeps-flushed cfg now j =
    let a : Job = resent cfg j in
    let b : Job = data_sent cfg a in
    let c : Job = fin_sent cfg b in
    let d : Job = ack_sent cfg c in
    then_keeps j.connection d.connection (armed cfg now d.connection)
    (then_keeps j.connection c.connection d.connection
    (then_keeps j.connection b.connection c.connection
    (then_keeps j.connection a.connection b.connection (keeps-resent cfg j) (keeps-data_sent cfg a))
    (keeps-fin_sent cfg b))
    (keeps-ack_sent cfg c))
    (keeps-armed cfg now d.connection)

peer-of_state : (w v : Connection) → KeepsState w v → KeepsPeer w v
peer-of_state w v k = record { rcv = k.rcv; quiet = λ q. ap is_established k.state ∙ q }

answered-call : (cfg : Cfg) (ask : Ask) (now : ℕ) (w : Connection) → w.state ≡ st.SynSent → is_live w ≡ false → IsAnswered w (called cfg ask now (start w)).connection
unfolding called
answered-call cfg ask now w e dead = by_tests (is_connect ask) (is_listen w.state) (ap is_listen e) (is_live w) dead
  where
    stays : IsAnswered w w
    stays = answered_by w w e (keeps-self w)

    by_tests : (a b : Bool) → b ≡ false → (c : Bool) → c ≡ false → IsAnswered w (if a then (if b then connecting cfg now (start w) else start w) else if c then answered cfg ask (start w) else returns (start w) rets.BadHandle).connection
    by_tests true true f c d = absurd (cc)
    by_tests true false f c d = stays
    by_tests false b f true d = absurd (cc)
    by_tests false b f false d = stays

pub answered-step : (cfg : Cfg) (input : Input) (now : ℕ) (w : Connection) → w.state ≡ st.SynSent → IsSound w → IsAnswered w (step cfg w input now).connection
unfolding step stepped arrived
answered-step cfg (inputs.Segment n seg) now w e s =
    subst (λ (x : State). IsAnswered w (arrived_in x cfg n seg now (start w)).connection) (sym e) (answered-segment cfg seg.head w e)
answered-step cfg inputs.Timer now w e s =
    subst (λ (x : State). IsAnswered w (if is_alive x then expired cfg now (start w) else start w).connection) (sym e) (answered_by w (expired cfg now (start w)).connection e (keeps-expired cfg now (start w)))
answered-step cfg (inputs.Call ask) now w e s = answered-call cfg ask now w e (dead_of w (ap is_unknown e) s)
answered-step cfg inputs.Flush now w e s =
    subst (λ (x : State). IsAnswered w (if is_alive x then flushed cfg now (start w) else start w).connection) (sym e)
    (answered_by w (flushed cfg now (start w)).connection e (peer-of_state w (flushed cfg now (start w)).connection (keeps-flushed cfg now (start w))))

-- ## Every step
-- where the state is known to be one in which both of these move by their numbers
sender_further : (w v : Connection) → FollowsNumbers → GoesOnward w v → is_listen w.state ≡ false
    → (v.una ≡ w.una + ahead (snd_una w) (snd_una v)) × (v.nxt ≡ w.nxt + ahead (snd_nxt w) (snd_nxt v))
sender_further w v law g e = (
  law w.iss w.una v.una (g.una e) ∙ ap (λ (k : ℕ). w.una + ahead (snd_una w) (number k v.una)) (sym g.iss),
  law w.iss w.nxt v.nxt (g.nxt e) ∙ ap (λ (k : ℕ). w.nxt + ahead (snd_nxt w) (number k v.nxt)) (sym g.iss),
)

abbrev pub place : ℕ → ℕ → ℕ → Positions
place a b c = record { una = a; nxt = b; rcv = c }

three : (a b c x y z : ℕ) → a ≡ x → b ≡ y → c ≡ z → place a b c ≡ place x y z
three a b c x y z p q r =
    ap (λ (k : ℕ). place k b c) p ∙ ap (λ (k : ℕ). place x k c) q ∙ ap (λ (k : ℕ). place x y k) r

-- what each step keeps of positions, in all states
pub record IsFurther (cfg : Cfg) (w v : Connection) : Type 0 where
  pub listen : w.state ≡ st.Listen → IsOpenedIn w v
  pub asked : w.state ≡ st.SynSent → IsAnswered w v
  pub onward : GoesOnward w v

by_numbers : (w v : Connection) (law : FollowsNumbers) (g : GoesOnward w v) (s : State) → w.state ≡ s → is_listen s ≡ false → (rcv : ℕ) → v.rcv ≡ rcv
    → positions_of v ≡ place (w.una + ahead (snd_una w) (snd_una v)) (w.nxt + ahead (snd_nxt w) (snd_nxt v)) rcv
by_numbers w v law g s e quiet rcv same =
    let moved : (v.una ≡ w.una + ahead (snd_una w) (snd_una v)) × (v.nxt ≡ w.nxt + ahead (snd_nxt w) (snd_nxt v)) = sender_further w v law g (ap is_listen e ∙ quiet) in
    three v.una v.nxt v.rcv (w.una + ahead (snd_una w) (snd_una v)) (w.nxt + ahead (snd_nxt w) (snd_nxt v)) rcv moved.0 moved.1 same

peer_further : (w v : Connection) → FollowsNumbers → GoesOnward w v → knows_peer w.state ≡ true → v.rcv ≡ w.rcv + ahead (rcv_nxt w) (rcv_nxt v)
peer_further w v law g e =
    law w.irs w.rcv v.rcv (g.rcv e) ∙ ap (λ (k : ℕ). w.rcv + ahead (rcv_nxt w) (number k v.rcv)) (sym (g.irs e))

further_by : (cfg : Cfg) (w v : Connection) → FollowsNumbers → IsFurther cfg w v → (s : State) → w.state ≡ s → positions_of v ≡ further_in s (tcb_of w) (tcb_of v) (positions_of w)
further_by cfg w v law f st.Listen e = f.listen e
further_by cfg w v law f st.SynSent e =
    by_numbers w v law f.onward st.SynSent e refl (if is_established v.state then 1 else w.rcv) (f.asked e)
further_by cfg w v law f st.SynReceived e = by_numbers w v law f.onward st.SynReceived e refl (w.rcv + ahead (rcv_nxt w) (rcv_nxt v)) (peer_further w v law f.onward (ap knows_peer e))
further_by cfg w v law f st.Established e = by_numbers w v law f.onward st.Established e refl (w.rcv + ahead (rcv_nxt w) (rcv_nxt v)) (peer_further w v law f.onward (ap knows_peer e))
further_by cfg w v law f st.FinWait1 e = by_numbers w v law f.onward st.FinWait1 e refl (w.rcv + ahead (rcv_nxt w) (rcv_nxt v)) (peer_further w v law f.onward (ap knows_peer e))
further_by cfg w v law f st.FinWait2 e = by_numbers w v law f.onward st.FinWait2 e refl (w.rcv + ahead (rcv_nxt w) (rcv_nxt v)) (peer_further w v law f.onward (ap knows_peer e))
further_by cfg w v law f st.CloseWait e = by_numbers w v law f.onward st.CloseWait e refl (w.rcv + ahead (rcv_nxt w) (rcv_nxt v)) (peer_further w v law f.onward (ap knows_peer e))
further_by cfg w v law f st.Closing e = by_numbers w v law f.onward st.Closing e refl (w.rcv + ahead (rcv_nxt w) (rcv_nxt v)) (peer_further w v law f.onward (ap knows_peer e))
further_by cfg w v law f st.LastAck e = by_numbers w v law f.onward st.LastAck e refl (w.rcv + ahead (rcv_nxt w) (rcv_nxt v)) (peer_further w v law f.onward (ap knows_peer e))
further_by cfg w v law f st.TimeWait e = by_numbers w v law f.onward st.TimeWait e refl (w.rcv + ahead (rcv_nxt w) (rcv_nxt v)) (peer_further w v law f.onward (ap knows_peer e))
further_by cfg w v law f st.Closed e = by_numbers w v law f.onward st.Closed e refl (w.rcv + ahead (rcv_nxt w) (rcv_nxt v)) (peer_further w v law f.onward (ap knows_peer e))

-- The positions after a step follow from those before it and from both numbers.
pub positions_follow : StepsGoOnward → FollowsNumbers → (cfg : Cfg) (t u : Tcb) (w : Connection) (input : Input) (now : ℕ) → cfg.window < 2 ^ 16 → IsWritten input → HasWindow input → StandsFor cfg t w → u ≡ tcb_of (step cfg w input now).connection
    → positions_of (step cfg w input now).connection ≡ further t u (positions_of w)
positions_follow steps law cfg t u w input now small written window s is =
    further_by cfg w (step cfg w input now).connection law
    (record {
      listen = λ e. opened-step cfg input now w e s.kept.sound;
      asked = λ e. answered-step cfg input now w e s.kept.sound;
      onward = steps cfg w input now small s.range written window s.kept;
    }) w.state refl
    ∙ ap (λ (a : Tcb). further a (tcb_of (step cfg w input now).connection) (positions_of w)) (sym s.numbers)
    ∙ ap (λ (b : Tcb). further t b (positions_of w)) (sym is)
