-- What a due timer does over numbers stands for what it does to the connection.
use Rattle.std.proofs.Common.{◌≡◌, ℕ, ◌+◌, ◌-◌, ◌%◌, ◌^◌, ◌≤◌, Bool, true, false, if◌then◌else◌, List, [], ◌∷◌, arith, refl, ap, sym, ◌∙◌, inl, inr}
use Rattle.std.specs.Prelude.{nat_lt, nat_le, ◌&&◌, not, Option, Some, None}
use Rattle.std.proofs.lemmas.Bool.{cases_Bool}
use Rattle.std.proofs.lemmas.Grind.{common_steps}
use Rattle.ix_base.specs.Sequence.{number}
use Rattle.ix_tcpdef.specs.Ticks.{later}
use Rattle.ix_tcpdef.specs.Connection.{is_closed, is_syn_sent, is_syn_received, is_time_wait, on, gives, tells, ended}
use Rattle.ix_tcpdef.specs.Frames.{plain_frame}
use Rattle.ix_tcpdef.specs.Needs.{carries}
use Rattle.ix_tcpdef.specs.Sound.{IsKept}
use Rattle.ix_tcpdef.specs.Step.{is_alive, step, stepped}
use Rattle.ix_tcpdef.specs.Flush.{is_due, backed_off, timed_out, collapsed_in, collapsed, retransmitted, probed, expired, first_unacked}
use Rattle.ix_tcpdef.specs.declared.types.Cfg.{Cfg}
use Rattle.ix_tcpdef.specs.declared.types.State.{State}
use Rattle.ix_tcpdef.specs.declared.types.State.TheVariants as st
use Rattle.ix_tcpdef.specs.declared.types.Connection.{Connection}
use Rattle.ix_tcpdef.specs.declared.types.Job.{Job}
use Rattle.ix_tcpdef.specs.declared.types.Input.TheVariants as inputs
use Rattle.ix_tcpdef.specs.declared.types.Output.TheVariants as outputs
use Rattle.ix_tcpdef.specs.declared.types.Told.TheVariants as told
use Rattle.ix_base.specs.declared.segment.TheConstants.{ACK}
use Rattle.ix_tcpdef.specs.Sound.{HasOpened}
use Rattle.ix_tcpdef.specs.Stands.{tcb_of, send_queue}
use Rattle.ix_tcpout.specs.Heads.{again_in}
use Rattle.ix_tcpout.specs.Given.{frame_of, outputs_of, has_ended, LeavesBytes, start}
use Rattle.ix_tcpout.specs.Sending.{IsSending}
use Rattle.ix_tcpout.specs.Expiry.{Fired, one, ending, closed, timeout_in, collapse_in, counted, retransmission, probe, fired}
use Rattle.ix_tcpout.proofs.AgainLemmas.{Orders, again_stands}
use Rattle.ix_tcpout.proofs.PartLemmas.{flight_is, flight_test, flies}

-- the numbers, the outputs and the end stand for those of a step
pub record FiresAs (w : Connection) (f : Fired) (j : Job) : Type 0 where
  pub numbers : f.numbers ≡ tcb_of j.connection
  pub outputs : outputs_of (send_queue w) f.outs ≡ j.outputs
  pub bytes : LeavesBytes w j.connection
  pub ended : f.outs.ended ≡ has_ended w j.connection

pub sending : (cfg : Cfg) (w : Connection) → is_alive w.state ≡ true → IsKept cfg w → IsSending w
sending cfg w alive k = record { alive = alive; sender = k.sound.sender; mss = k.sound.sizes.mss_least }

-- a connection that lives was not closed
pub alive-open : (s : State) → is_alive s ≡ true → is_closed s ≡ false
alive-open st.Listen e = cc
alive-open st.Closed e = cc
alive-open _ e = refl

ends : (w v : Connection) → is_alive w.state ≡ true → is_closed v.state ≡ true → true ≡ has_ended w v
ends w v alive shut = rw (alive-open w.state alive, shut) refl

pub lives : (w v : Connection) → is_alive v.state ≡ true → false ≡ has_ended w v
lives w v alive = rw (alive-open v.state alive) (by_test (not (is_closed w.state)))
  where
    by_test : (b : Bool) → false ≡ (b && false)
    by_test true = refl
    by_test false = refl

-- what is held of a connection that ended or not, by how it ended
held_by : (w : Connection) (b : Bool) (ended : Bool) → b ≡ ended → (if b then [] else w.held) ≡ (if ended then [] else w.held)
held_by w b ended e = ap (λ (x : Bool). if x then [] else w.held) e

bytes_ended : (w : Connection) → is_alive w.state ≡ true → LeavesBytes w (ended w)
bytes_ended w alive = record { sent = refl; queue = refl; pieces = refl; held = held_by w true _ (ends w (ended w) alive refl) }

-- ## Too often
timed_out_as : (s : State) (w : Connection) → w.state ≡ s → is_alive s ≡ true → FiresAs w (record { numbers = closed (tcb_of w); outs = ending (timeout_in s (tcb_of w)) }) (if is_syn_sent s then gives (on (start w) (ended w)) (outputs.Told told.ConnectedTimeout) else tells (on (start w) (ended w)) told.DeadTimeout)
timed_out_as st.Listen w is alive = cc
timed_out_as st.Closed w is alive = cc
timed_out_as st.SynSent w is alive = record { numbers = refl; outputs = refl; bytes = bytes_ended w (ap is_alive is ∙ alive); ended = ends w (ended w) (ap is_alive is ∙ alive) refl }
timed_out_as _ w is alive = by_test (w.accepted && not w.shut)
  where
    by_test : (b : Bool) → FiresAs w (record { numbers = closed (tcb_of w); outs = ending (if b then Some told.DeadTimeout else None) }) (if b then gives (on (start w) (ended w)) (outputs.Told told.DeadTimeout) else on (start w) (ended w))
    by_test true = record { numbers = refl; outputs = refl; bytes = bytes_ended w (ap is_alive is ∙ alive); ended = ends w (ended w) (ap is_alive is ∙ alive) refl }
    by_test false = record { numbers = refl; outputs = refl; bytes = bytes_ended w (ap is_alive is ∙ alive); ended = ends w (ended w) (ap is_alive is ∙ alive) refl }

-- ## Sent again
collapse_as : (s : State) (w : Connection) → Orders w → collapse_in s (tcb_of w) ≡ tcb_of (collapsed_in s w)
collapse_as st.SynSent w o = refl
collapse_as st.SynReceived w o = refl
collapse_as _ w o = rw (flight_is w o) refl

-- what a retransmission leaves of the connection
record Same (w v : Connection) : Type 0 where
  state : v.state ≡ w.state
  sent : v.sent ≡ w.sent
  queue : send_queue v ≡ send_queue w
  pieces : v.pieces ≡ w.pieces
  held : v.held ≡ w.held
  sending : IsSending w → IsSending v

same-collapsed : (s : State) (w : Connection) (expiries : ℕ) (d : Option ℕ) → Same w (record (collapsed_in s w) { expiries = expiries; deadline = d })
same-collapsed st.SynSent w e d = record { state = refl; sent = refl; queue = refl; pieces = refl; held = refl; sending = λ s. record { alive = s.alive; sender = s.sender; mss = s.mss } }
same-collapsed st.SynReceived w e d = record { state = refl; sent = refl; queue = refl; pieces = refl; held = refl; sending = λ s. record { alive = s.alive; sender = s.sender; mss = s.mss } }
same-collapsed _ w e d = record { state = refl; sent = refl; queue = refl; pieces = refl; held = refl; sending = λ s. record { alive = s.alive; sender = s.sender; mss = s.mss } }

sent_again : (cfg : Cfg) (now : ℕ) (w v : Connection) → IsSending w → Same w v → FiresAs w (record { numbers = tcb_of v; outs = one (again_in w.state cfg (tcb_of v)) }) (gives (on (start w) v) (first_unacked cfg v))
sent_again cfg now w v s same =
    record {
      numbers = refl;
      outputs =
          ap (λ (q : List ℕ). frame_of q (again_in w.state cfg (tcb_of v)) ∷ []) (sym same.queue)
          ∙ ap (λ st. frame_of (send_queue v) (again_in st cfg (tcb_of v)) ∷ []) (sym same.state)
          ∙ ap (λ o. o ∷ []) (again_stands cfg v (same.sending s));
      bytes = record { sent = same.sent; queue = same.queue; pieces = same.pieces; held = same.held ∙ held_by w false _ (lives w v (same.sending s).alive) };
      ended = lives w v (same.sending s).alive;
    }

retransmitted_as : (cfg : Cfg) (now : ℕ) (w : Connection) → IsSending w → FiresAs w (retransmission cfg now (tcb_of w)) (retransmitted cfg now (start w))
unfolding retransmission retransmitted collapsed timed_out
retransmitted_as cfg now w s = by_test (nat_le cfg.retries (w.expiries + 1))
  where
    by_test : (b : Bool) → FiresAs w (if b then record { numbers = closed (tcb_of w); outs = ending (timeout_in w.state (tcb_of w)) } else record { numbers = counted cfg now (w.expiries + 1) (collapse_in w.state (tcb_of w)); outs = one (again_in w.state cfg (counted cfg now (w.expiries + 1) (collapse_in w.state (tcb_of w)))) }) (if b then timed_out (start w) else gives (on (start w) (record (collapsed_in w.state w) { expiries = w.expiries + 1; deadline = Some (later now (backed_off cfg (w.expiries + 1))) })) (first_unacked cfg (record (collapsed_in w.state w) { expiries = w.expiries + 1; deadline = Some (later now (backed_off cfg (w.expiries + 1))) })))
    by_test true = timed_out_as w.state w refl s.alive
    by_test false = rw (collapse_as w.state w s.sender) (sent_again cfg now w _ s (same-collapsed w.state w _ _))

-- ## A probe
probe_number : (iss una : ℕ) → 1 ≤ una → (number iss una + (2 ^ 32 - 1)) % 2 ^ 32 ≡ number iss (una - 1)
probe_number iss una least = omega arith

probed_as : (cfg : Cfg) (now : ℕ) (w : Connection) → 1 ≤ w.una → IsSending w → FiresAs w (probe cfg now (tcb_of w)) (probed cfg now (start w))
unfolding probe probed
probed_as cfg now w least s =
    record {
      numbers = refl;
      outputs = ap (λ seq. plain_frame cfg w seq ACK [] ∷ []) (probe_number w.iss w.una least);
      bytes = record { sent = refl; queue = refl; pieces = refl; held = held_by w false _ (lives w w s.alive) };
      ended = lives w w s.alive;
    }

-- where nothing is in flight, the SYN was acknowledged
acknowledged : (s : State) (w : Connection) → w.state ≡ s → is_alive s ≡ true → (is_syn_received s ≡ true → (w.una ≡ 0) × (w.nxt ≡ 1)) → IsSending w → w.una ≡ w.nxt → 1 ≤ w.una
acknowledged st.Listen w is alive syn s same = cc
acknowledged st.Closed w is alive syn s same = cc
acknowledged st.SynSent w is alive syn s same = let one : w.nxt ≡ 1 = s.sender.syn (ap is_syn_sent is) in omega arith
acknowledged st.SynReceived w is alive syn s same = let first : w.una ≡ 0 = (syn refl).0 in let next : w.nxt ≡ 1 = (syn refl).1 in omega arith
acknowledged _ w is alive syn s same = s.sender.stream (ap carries is)

-- ## All
fired_as : (cfg : Cfg) (now : ℕ) (w : Connection) → HasOpened w → is_due w.deadline now ≡ true → IsSending w → FiresAs w (fired cfg now (tcb_of w)) (expired cfg now (start w))
unfolding fired expired
fired_as cfg now w syn due s =
    rw due (elim (cases_Bool (is_time_wait w.state)) [
      | inl waits ↦ rw waits (record { numbers = refl; outputs = refl; bytes = bytes_ended w s.alive; ended = ends w (ended w) s.alive refl })
      | inr other ↦ rw (other, flight_test w (flies w s)) (elim (cases_Bool (nat_lt w.una w.nxt)) [
        | inl flies ↦ rw flies (retransmitted_as cfg now w s)
        | inr rests ↦ rw rests
            (let order : w.una ≤ w.nxt = s.sender.order in
            let same : w.una ≡ w.nxt = grind (arith, common_steps, rests) in
            probed_as cfg now w (acknowledged w.state w refl s.alive syn.synchronizing s same) s)
      ])
    ])

pub expiry_stands : (cfg : Cfg) (now : ℕ) (w : Connection) → IsKept cfg w → HasOpened w → is_due w.deadline now ≡ true → is_alive w.state ≡ true → FiresAs w (fired cfg now (tcb_of w)) (step cfg w inputs.Timer now)
unfolding step stepped
expiry_stands cfg now w k syn due alive = rw alive (fired_as cfg now w syn due (sending cfg w alive k))

-- a connection that doesn't live is left as it is
pub idle_stands : (cfg : Cfg) (now : ℕ) (w : Connection) → is_alive w.state ≡ false → step cfg w inputs.Timer now ≡ start w
unfolding step stepped
idle_stands cfg now w dead = rw dead refl

pub idle-ended : (w : Connection) → false ≡ has_ended w w
idle-ended w = by_test (is_closed w.state)
  where
    by_test : (b : Bool) → false ≡ (not b && b)
    by_test true = refl
    by_test false = refl

pub bytes_idle : (w : Connection) → LeavesBytes w w
bytes_idle w = record { sent = refl; queue = refl; pieces = refl; held = held_by w false _ (idle-ended w) }
