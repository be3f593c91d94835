-- What a connection sends on its own, and over whole steps and runs.
use Rattle.std.proofs.Common.{◌≡◌, ℕ, zero, suc, ◌+◌, ◌-◌, ◌<◌, ◌≤◌, true, false, length, take, drop, List, [], ◌∷◌, ◌++◌, map, arith, refl, sym, ap, subst, ◌∙◌, inl, inr, length-take, length-drop, append_assoc}
use Rattle.std.specs.Prelude.{nat_lt, nat_le, ◌&&◌, ◌||◌, ◌==◌, not, Some, min, is_none}
use Rattle.std.specs.List.{All}
use Rattle.std.proofs.lemmas.Bool.{cond_both}
use Rattle.std.proofs.lemmas.List.{take-append-drop, drop-drop}
use Rattle.std.proofs.Math.Seq.{drop-append_seam}
use Rattle.std.proofs.lemmas.List.Elements.{All-append, All-cons, All-nil, All-weaker}
use Rattle.ix_base.specs.declared.segment.Ret.TheVariants as rets
use Rattle.ix_base.specs.Sequence.{number}
use Rattle.ix_tcpdef.specs.Ticks.{later}
use Rattle.ix_tcpdef.specs.Connection.{rcv_nxt, is_listen, is_time_wait, is_syn_sent, on, ended}
use Rattle.ix_tcpdef.specs.Frames.{fin_frame}
use Rattle.ix_tcpdef.specs.Flush.{unacked, unsent, first_of, first_unacked_in, first_unacked, resends, resent, sends, usable, sendable, data_frames, data_sent, fin_sent, ack_sent, waits_for_window, armed, flushed, is_due, backed_off, timed_out, collapsed_in, collapsed, retransmitted, probed, expired}
use Rattle.ix_tcpdef.specs.Calls.{is_live, recv_of, kept_end, is_close_wait, accept, is_open, sendv, recv_done, close, answered, is_connect, called}
use Rattle.ix_tcpdef.specs.Needs.{carries}
use Rattle.ix_tcpdef.specs.Sound.{IsInRange, IsKept}
use Rattle.ix_tcpdef.specs.Step.{Moment, is_alive, stepped, step, last}
use Rattle.ix_tcpdef.specs.Laws.{Acknowledges, Carries, SendsFairly, AreWritten, EachSendsFairly}
use Rattle.ix_tcpdef.proofs.FairArrival.{IsQuiet, AreQuiet, fair-quiet, quiet-none, quiet-more, quiet-tells, fair-more, fair-ack, fair-connecting, fair-arrived}
use Rattle.ix_tcpdef.proofs.KeptStep.{kept-step}
use Rattle.ix_tcpdef.proofs.KeptFlush.{sends-carries}
use Rattle.ix_tcpdef.specs.declared.types.Cfg.{Cfg}
use Rattle.ix_tcpdef.specs.declared.types.State.{State}
use Rattle.ix_tcpdef.specs.declared.types.State.TheVariants as st
use Rattle.ix_tcpdef.specs.declared.types.Connection.{Connection}
use Rattle.ix_tcpdef.specs.declared.types.Piece.{Piece}
use Rattle.ix_tcpdef.specs.declared.types.Job.{Job}
use Rattle.ix_tcpdef.specs.declared.types.Ask.{Ask}
use Rattle.ix_tcpdef.specs.declared.types.Ask.TheVariants as asks
use Rattle.ix_tcpdef.specs.declared.types.Input.{Input}
use Rattle.ix_tcpdef.specs.declared.types.Input.TheVariants as inputs
use Rattle.ix_tcpdef.specs.declared.types.Output.{Output}
use Rattle.ix_tcpdef.specs.declared.types.Output.TheVariants as outputs
use Rattle.ix_tcpdef.specs.declared.types.Told.TheVariants as told

-- ## The first unacknowledged segment
front-of-front : (k m : ℕ) (s : List ℕ) → s ≡ take k (take m s) ++ (drop k (take m s) ++ drop m s)
front-of-front k m s =
    sym (take-append-drop m s) ∙ ap (λ (t : List ℕ). t ++ drop m s) (sym (take-append-drop k (take m s))) ∙ append_assoc (take k (take m s)) (drop k (take m s)) (drop m s)

-- what a step before which old stood sends of the stream
fair-first_of : (cfg : Cfg) (old w new : Connection) (bytes : List ℕ) → bytes ≡ unacked w → 1 ≤ w.una → w.una ≤ w.nxt → w.iss ≡ new.iss → w.sent ≡ new.sent → w.una ≡ old.una → w.nxt ≡ old.nxt → w.nxt ≡ new.nxt → Carries old new (first_of cfg w bytes)
fair-first_of cfg old w new [] e least order iss sent una nxt still = inl refl
fair-first_of cfg old w new (b ∷ bytes) e least order iss sent una nxt still =
    let len : length (unacked w) ≡ _ = length-take (w.nxt - w.una) (drop (w.una - 1) w.sent) in
    let cut : length (take w.mss (b ∷ bytes)) ≡ _ = length-take w.mss (b ∷ bytes) in
    let whole : length (b ∷ bytes) ≡ length (unacked w) = ap length e in
    inr (record {
      at = w.una;
      first = least;
      from = omega (arith, una);
      to = omega (arith, len, cut, whole, still, order);
      seq = ap (λ n. number n w.una) iss;
      rest = drop w.mss (unacked w) ++ drop (w.nxt - w.una) (drop (w.una - 1) w.sent);
      body = ap (λ (s : List ℕ). drop (w.una - 1) s) (sym sent)
          ∙ front-of-front w.mss (w.nxt - w.una) (drop (w.una - 1) w.sent)
          ∙ ap (λ (t : List ℕ). take w.mss t ++ (drop w.mss (unacked w) ++ drop (w.nxt - w.una) (drop (w.una - 1) w.sent))) (sym e);
      window = inl (omega (arith, len, cut, whole, nxt, order));
    })

-- the states in which there may be something to send again
fair-first_in : (s : State) (cfg : Cfg) (old w new : Connection) → w.state ≡ s → is_alive s ≡ true → (carries w.state ≡ true → 1 ≤ w.una) → w.una ≤ w.nxt → w.iss ≡ new.iss → w.sent ≡ new.sent → w.una ≡ old.una → w.nxt ≡ old.nxt → w.nxt ≡ new.nxt → Carries old new (first_unacked_in s cfg w)
fair-first_in st.SynSent cfg old w new is alive least order iss sent una nxt still = inl refl
fair-first_in st.SynReceived cfg old w new is alive least order iss sent una nxt still = inl refl
fair-first_in st.Listen cfg old w new is alive least order iss sent una nxt still = cc
fair-first_in st.Closed cfg old w new is alive least order iss sent una nxt still = cc
fair-first_in _ cfg old w new is alive least order iss sent una nxt still =
    fair-first_of cfg old w new (unacked w) refl (least (ap carries is)) order iss sent una nxt still

acks-first_of : (cfg : Cfg) (w new : Connection) (bytes : List ℕ) → rcv_nxt w ≡ rcv_nxt new → Acknowledges new (first_of cfg w bytes)
acks-first_of cfg w new [] same = λ _ _. same
acks-first_of cfg w new (b ∷ bytes) same = λ _ _. same

acks-first_in : (s : State) (cfg : Cfg) (w new : Connection) → rcv_nxt w ≡ rcv_nxt new → Acknowledges new (first_unacked_in s cfg w)
acks-first_in st.SynSent cfg w new same = λ e _. let no : false ≡ true = e in cc
acks-first_in st.SynReceived cfg w new same = λ _ _. same
acks-first_in _ cfg w new same = acks-first_of cfg w new (unacked w) same

-- ## Flush
-- What is fair to a connection depends on these of its parts.
same-acks : (v w : Connection) (os : List Output) → rcv_nxt v ≡ rcv_nxt w → All (Acknowledges v) os → All (Acknowledges w) os
same-acks v w os same = All-weaker (Acknowledges v) (Acknowledges w) each os
  where
    each : (o : Output) → Acknowledges v o → Acknowledges w o
    each (outputs.Frame seg) a = λ e f. a e f ∙ same
    each (outputs.Told t) a = tt
    each (outputs.Ret r) a = tt

same-carries : (old v w : Connection) (o : Output) → v.iss ≡ w.iss → v.sent ≡ w.sent → v.nxt ≤ w.nxt → Carries old v o → Carries old w o
same-carries old v w (outputs.Frame seg) iss sent more (inl e) = inl e
same-carries old v w (outputs.Frame seg) iss sent more (inr c) =
    inr (record {
      at = c.at;
      first = c.first;
      from = c.from;
      to = omega (arith, c.to, more);
      seq = c.seq ∙ ap (λ n. number n c.at) iss;
      rest = c.rest;
      body = ap (λ (s : List ℕ). drop (c.at - 1) s) (sym sent) ∙ c.body;
      window = c.window;
    })
same-carries old v w (outputs.Told t) iss sent more c = tt
same-carries old v w (outputs.Ret r) iss sent more c = tt

pub fair-same : (old v w : Connection) (os : List Output) → v.iss ≡ w.iss → v.irs ≡ w.irs → v.rcv ≡ w.rcv → v.sent ≡ w.sent → v.nxt ≤ w.nxt → SendsFairly old v os → SendsFairly old w os
fair-same old v w os iss irs rcv sent more f =
    record {
      acks = same-acks v w os (ap (λ n. number n v.rcv) irs ∙ ap (λ n. number w.irs n) rcv) f.acks;
      bodies = All-weaker (Carries old v) (Carries old w) (λ o. same-carries old v w o iss sent more) os f.bodies;
    }

-- what a part of a flush leaves: it is fair, and these parts are as they were
record IsFlushing (old : Connection) (j : Job) : Type 0 where
  fair : SendsFairly old j.connection j.outputs
  state : j.connection.state ≡ old.state
  iss : j.connection.iss ≡ old.iss
  una : j.connection.una ≡ old.una
  wnd : j.connection.wnd ≡ old.wnd
  cwnd : j.connection.cwnd ≡ old.cwnd

flushing-resent : (cfg : Cfg) (w : Connection) (j : Job) → j.connection ≡ w → AreQuiet j.outputs → is_alive w.state ≡ true → IsKept cfg w → IsFlushing w (resent cfg j) × ((resent cfg j).connection.nxt ≡ w.nxt)
unfolding resent first_unacked
flushing-resent cfg w j is q alive k =
    subst (λ (v : Connection). IsFlushing v (resent cfg j) × ((resent cfg j).connection.nxt ≡ v.nxt)) is
    (cond_both (j.connection.resend && resends j.connection.state) _ _ (λ (r : Job). IsFlushing j.connection r × (r.connection.nxt ≡ j.connection.nxt))
    (λ _. (
      record {
        fair = fair-more j.connection (record j.connection { resend = false }) j.outputs (first_unacked_in j.connection.state cfg j.connection)
            (acks-first_in j.connection.state cfg j.connection (record j.connection { resend = false }) refl)
            (fair-first_in j.connection.state cfg j.connection j.connection (record j.connection { resend = false }) refl (ap (λ (v : Connection). is_alive v.state) is ∙ alive) (subst (λ (v : Connection). carries v.state ≡ true → 1 ≤ v.una) (sym is) k.sound.sender.stream) (subst (λ (v : Connection). v.una ≤ v.nxt) (sym is) k.sound.sender.order) refl refl refl refl refl)
            (fair-quiet j.connection (record j.connection { resend = false }) j.outputs q);
        state = refl;
        iss = refl;
        una = refl;
        wnd = refl;
        cwnd = refl;
      },
      refl,
    ))
    (λ _. (record { fair = fair-quiet j.connection j.connection j.outputs q; state = refl; iss = refl; una = refl; wnd = refl; cwnd = refl }, refl)))

-- bytes of the stream at this position, in segments
fair-frames : (cfg : Cfg) (old w new : Connection) (most at : ℕ) (bytes rest : List ℕ) → 1 ≤ at → drop (at - 1) new.sent ≡ bytes ++ rest → old.una ≤ at → at + length bytes ≤ new.nxt → old.nxt ≤ at → (0 < length bytes → at + length bytes ≤ old.una + min old.wnd old.cwnd) → w.iss ≡ new.iss → rcv_nxt w ≡ rcv_nxt new → SendsFairly old new (data_frames cfg w most at bytes)
fair-frames cfg old w new zero at bytes rest first stands from to behind within iss same =
    record { acks = All-nil (Acknowledges new); bodies = All-nil (Carries old new) }
fair-frames cfg old w new (suc most) at [] rest first stands from to behind within iss same =
    record { acks = All-nil (Acknowledges new); bodies = All-nil (Carries old new) }
fair-frames cfg old w new (suc most) at (b ∷ bytes) rest first stands from to behind within iss same =
    let whole : at + length (b ∷ bytes) ≤ old.una + min old.wnd old.cwnd = within (omega arith) in
    let cut : length (take w.mss (b ∷ bytes)) ≡ min w.mss (length (b ∷ bytes)) = length-take w.mss (b ∷ bytes) in
    let left : length (drop w.mss (b ∷ bytes)) ≡ length (b ∷ bytes) - w.mss = length-drop w.mss (b ∷ bytes) in
    let apart : drop (at - 1) new.sent ≡ take w.mss (b ∷ bytes) ++ (drop w.mss (b ∷ bytes) ++ rest) =
    stands ∙ ap (λ (t : List ℕ). t ++ rest) (sym (take-append-drop w.mss (b ∷ bytes))) ∙ append_assoc (take w.mss (b ∷ bytes)) (drop w.mss (b ∷ bytes)) rest in
    let next : at + length (take w.mss (b ∷ bytes)) - 1 ≡ (at - 1) + length (take w.mss (b ∷ bytes)) = omega arith in
    let later : drop (at + length (take w.mss (b ∷ bytes)) - 1) new.sent ≡ drop w.mss (b ∷ bytes) ++ rest =
    ap (λ (n : ℕ). drop n new.sent) next
    ∙ sym (drop-drop (length (take w.mss (b ∷ bytes))) (at - 1) new.sent)
    ∙ ap (λ (t : List ℕ). drop (length (take w.mss (b ∷ bytes))) t) apart
    ∙ drop-append_seam (take w.mss (b ∷ bytes)) (drop w.mss (b ∷ bytes) ++ rest) in
    let others : SendsFairly old new (data_frames cfg w most (at + length (take w.mss (b ∷ bytes))) (drop w.mss (b ∷ bytes))) =
    fair-frames cfg old w new most (at + length (take w.mss (b ∷ bytes))) (drop w.mss (b ∷ bytes)) rest (omega arith) later (omega arith) (omega (arith, cut, left)) (omega arith) (λ _. omega (arith, cut, left, whole)) iss same in
    record {
      acks = All-cons (Acknowledges new) _ _ (λ _ _. same) others.acks;
      bodies = All-cons (Carries old new) _ _ (inr (record {
        at = at;
        first = first;
        from = from;
        to = omega (arith, cut);
        seq = ap (λ n. number n at) iss;
        rest = drop w.mss (b ∷ bytes) ++ rest;
        body = apart;
        window = inr (behind, omega (arith, cut, whole));
      })) others.bodies;
    }

fair-append : (old new : Connection) (os more : List Output) → SendsFairly old new os → SendsFairly old new more → SendsFairly old new (os ++ more)
fair-append old new os more f g =
    record {
      acks = All-append (Acknowledges new) os more f.acks g.acks;
      bodies = All-append (Carries old new) os more f.bodies g.bodies;
    }

flushing-data_sent : (cfg : Cfg) (old : Connection) (j : Job) → j.connection.nxt ≡ old.nxt → (carries j.connection.state ≡ true → 1 ≤ j.connection.una) → j.connection.una ≤ j.connection.nxt → IsFlushing old j → IsFlushing old (data_sent cfg j)
unfolding data_sent
flushing-data_sent cfg old j nxt least order f =
    let cut : length (take (usable j.connection) (unsent j.connection)) ≡ min (usable j.connection) (length (unsent j.connection)) = length-take (usable j.connection) (unsent j.connection) in
    let una : j.connection.una ≡ old.una = f.una in
    let wnd : j.connection.wnd ≡ old.wnd = f.wnd in
    let cwnd : j.connection.cwnd ≡ old.cwnd = f.cwnd in
    let bound : j.connection.una + min j.connection.wnd j.connection.cwnd ≡ old.una + min old.wnd old.cwnd = cc in
    let moved : Connection = record j.connection { nxt = j.connection.nxt + length (sendable j.connection) } in
    cond_both (sends j.connection.state) _ _ (IsFlushing old)
    (λ s.
    let one : 1 ≤ j.connection.una = least (sends-carries j.connection.state s) in
    record {
      fair = fair-append old _ j.outputs _ (fair-same old j.connection _ j.outputs refl refl refl refl (omega arith) f.fair)
          (fair-frames cfg old j.connection _ (length (sendable j.connection)) j.connection.nxt (sendable j.connection) (drop (usable j.connection) (unsent j.connection)) (omega arith) (sym (take-append-drop (usable j.connection) (unsent j.connection))) (omega (arith, una, order)) (omega arith) (omega arith) (λ some. omega (arith, cut, bound, some)) refl refl);
      state = f.state;
      iss = f.iss;
      una = f.una;
      wnd = f.wnd;
      cwnd = f.cwnd;
    })
    (λ _. f)

flushing-fin_sent : (cfg : Cfg) (old : Connection) (j : Job) → IsFlushing old j → IsFlushing old (fin_sent cfg j)
unfolding fin_sent
flushing-fin_sent cfg old j f =
    cond_both (sends j.connection.state && j.connection.fin_wanted && not j.connection.fin_sent && (length (unsent j.connection) == 0)) _ _ (IsFlushing old)
    (λ _. record {
      fair = fair-more old _ j.outputs (fin_frame cfg j.connection j.connection.nxt) (λ _ _. refl) (inl refl) (fair-same old j.connection _ j.outputs refl refl refl refl (omega arith) f.fair);
      state = f.state;
      iss = f.iss;
      una = f.una;
      wnd = f.wnd;
      cwnd = f.cwnd;
    })
    (λ _. f)

fair-ack_sent : (cfg : Cfg) (old : Connection) (j : Job) → SendsFairly old j.connection j.outputs → SendsFairly old (ack_sent cfg j).connection (ack_sent cfg j).outputs
unfolding ack_sent
fair-ack_sent cfg old j f =
    cond_both (j.connection.ack_owed && (length j.outputs == 0)) _ _ (λ (r : Job). SendsFairly old r.connection r.outputs)
    (λ _. fair-ack cfg old j.connection _ j.outputs refl (fair-same old j.connection _ j.outputs refl refl refl refl (omega arith) f))
    (λ _. fair-same old j.connection _ j.outputs refl refl refl refl (omega arith) f)

fair-armed : (cfg : Cfg) (now : ℕ) (old w : Connection) (os : List Output) → SendsFairly old w os → SendsFairly old (armed cfg now w) os
unfolding armed
fair-armed cfg now old w os f =
    cond_both (is_none w.deadline && (nat_lt w.una w.nxt || ((w.una == w.nxt) && waits_for_window w))) _ _ (λ (v : Connection). SendsFairly old v os)
    (λ _. fair-same old w _ os refl refl refl refl (omega arith) f)
    (λ _. f)

fair-flushed : (cfg : Cfg) (now : ℕ) (w : Connection) (j : Job) → j.connection ≡ w → AreQuiet j.outputs → is_alive w.state ≡ true → IsKept cfg w → SendsFairly w (flushed cfg now j).connection (flushed cfg now j).outputs
unfolding flushed
fair-flushed cfg now w j is q alive k =
    let r : IsFlushing w (resent cfg j) × ((resent cfg j).connection.nxt ≡ w.nxt) = flushing-resent cfg w j is q alive k in
    let una : (resent cfg j).connection.una ≡ w.una = r.0.una in
    let nxt : (resent cfg j).connection.nxt ≡ w.nxt = r.1 in
    let order : w.una ≤ w.nxt = k.sound.sender.order in
    let least : carries (resent cfg j).connection.state ≡ true → 1 ≤ (resent cfg j).connection.una = λ e. (let one : 1 ≤ w.una = k.sound.sender.stream (sym (ap carries r.0.state) ∙ e) in omega arith) in
    fair-armed cfg now w _ _ (fair-ack_sent cfg w _ (flushing-fin_sent cfg w _ (flushing-data_sent cfg w (resent cfg j) r.1 least (omega arith) r.0)).fair)

-- ## The timer
record SameStream (v w : Connection) : Type 0 where
  state : w.state ≡ v.state
  iss : w.iss ≡ v.iss
  irs : w.irs ≡ v.irs
  rcv : w.rcv ≡ v.rcv
  sent : w.sent ≡ v.sent
  una : w.una ≡ v.una
  nxt : w.nxt ≡ v.nxt

collapsed-same : (s : State) (w : Connection) → SameStream w (collapsed_in s w)
collapsed-same st.SynSent w = record { state = refl; iss = refl; irs = refl; rcv = refl; sent = refl; una = refl; nxt = refl }
collapsed-same st.SynReceived w = record { state = refl; iss = refl; irs = refl; rcv = refl; sent = refl; una = refl; nxt = refl }
collapsed-same _ w = record { state = refl; iss = refl; irs = refl; rcv = refl; sent = refl; una = refl; nxt = refl }

fair-timed_out : (old : Connection) (j : Job) → AreQuiet j.outputs → SendsFairly old (timed_out j).connection (timed_out j).outputs
unfolding timed_out
fair-timed_out old j q =
    cond_both (is_syn_sent j.connection.state) _ _ (λ (r : Job). SendsFairly old r.connection r.outputs)
    (λ _. fair-quiet old _ _ (quiet-more j.outputs (outputs.Told told.ConnectedTimeout) q tt))
    (λ _. fair-quiet old _ _ (quiet-tells (on j (ended j.connection)) told.DeadTimeout q))

fair-again : (cfg : Cfg) (old w : Connection) (os : List Output) → SameStream old w → AreQuiet os → is_alive old.state ≡ true → IsKept cfg old → SendsFairly old w (os ++ first_unacked_in w.state cfg w ∷ [])
fair-again cfg old w os same q alive k =
    let una : w.una ≡ old.una = same.una in
    let nxt : w.nxt ≡ old.nxt = same.nxt in
    let order : old.una ≤ old.nxt = k.sound.sender.order in
    fair-more old w os (first_unacked_in w.state cfg w)
    (acks-first_in w.state cfg w w refl)
    (fair-first_in w.state cfg old w w refl (ap is_alive same.state ∙ alive) (λ e. let one : 1 ≤ old.una = k.sound.sender.stream (sym (ap carries same.state) ∙ e) in omega arith) (omega arith) refl refl una nxt refl)
    (fair-quiet old w os q)

fair-retransmitted : (cfg : Cfg) (now : ℕ) (j : Job) → AreQuiet j.outputs → is_alive j.connection.state ≡ true → IsKept cfg j.connection → SendsFairly j.connection (retransmitted cfg now j).connection (retransmitted cfg now j).outputs
unfolding retransmitted collapsed first_unacked
fair-retransmitted cfg now j q alive k =
    let same : SameStream j.connection (collapsed_in j.connection.state j.connection) = collapsed-same j.connection.state j.connection in
    let expiries : ℕ = j.connection.expiries + 1 in
    cond_both (nat_le cfg.retries (j.connection.expiries + 1)) _ _ (λ (r : Job). SendsFairly j.connection r.connection r.outputs)
    (λ _. fair-timed_out j.connection j q)
    (λ _. fair-again cfg j.connection (record (collapsed_in j.connection.state j.connection) { expiries = j.connection.expiries + 1; deadline = Some (later now (backed_off cfg (j.connection.expiries + 1))) }) j.outputs
    (record { state = same.state; iss = same.iss; irs = same.irs; rcv = same.rcv; sent = same.sent; una = same.una; nxt = same.nxt }) q alive k)

fair-expired : (cfg : Cfg) (now : ℕ) (j : Job) → AreQuiet j.outputs → is_alive j.connection.state ≡ true → IsKept cfg j.connection → SendsFairly j.connection (expired cfg now j).connection (expired cfg now j).outputs
unfolding expired probed
fair-expired cfg now j q alive k =
    let P : Job → Type 0 = λ r. SendsFairly j.connection r.connection r.outputs in
    cond_both (not (is_due j.connection.deadline now)) _ _ P
    (λ _. fair-quiet j.connection j.connection j.outputs q)
    (λ _. cond_both (is_time_wait j.connection.state) _ _ P
    (λ _. fair-quiet j.connection _ j.outputs q)
    (λ _. cond_both (nat_lt j.connection.una j.connection.nxt) _ _ P
    (λ _. fair-retransmitted cfg now j q alive k)
    (λ _. fair-more j.connection _ j.outputs _ (λ _ _. refl) (inl refl) (fair-quiet j.connection _ j.outputs q))))

-- ## Calls
quiet-pieces : (ps : List Piece) → All IsQuiet (map recv_of ps)
quiet-pieces [] = All-nil IsQuiet
quiet-pieces (p ∷ ps) = All-cons IsQuiet (recv_of p) (map recv_of ps) tt (quiet-pieces ps)

quiet-end : (w : Connection) → All IsQuiet (kept_end w)
quiet-end w =
    cond_both (is_close_wait w.state) _ _ (All IsQuiet)
    (λ _. All-cons IsQuiet (outputs.Told told.RecvEnd) [] tt (All-nil IsQuiet))
    (λ _. All-nil IsQuiet)

quiet-accept : (j : Job) → AreQuiet j.outputs → AreQuiet (accept j).outputs
unfolding accept
quiet-accept j q =
    cond_both j.connection.accepted _ _ (λ (r : Job). AreQuiet r.outputs)
    (λ _. quiet-more j.outputs _ q tt)
    (λ _. record { each = All-append IsQuiet _ (kept_end j.connection) (All-append IsQuiet _ (map recv_of j.connection.pieces) (quiet-more j.outputs (outputs.Ret (rets.Done 0)) q tt).each (quiet-pieces j.connection.pieces)) (quiet-end j.connection) })

quiet-answered : (cfg : Cfg) (ask : Ask) (j : Job) → AreQuiet j.outputs → AreQuiet (answered cfg ask j).outputs
unfolding answered sendv recv_done close
quiet-answered cfg asks.Connect j q = q
quiet-answered cfg asks.Accept j q = quiet-accept j q
quiet-answered cfg (asks.Sendv bytes) j q =
    cond_both (not (j.connection.accepted && is_open j.connection.state)) _ _ (λ (r : Job). AreQuiet r.outputs)
    (λ _. quiet-more j.outputs _ q tt)
    (λ _. quiet-more j.outputs _ q tt)
quiet-answered cfg (asks.RecvDone n) j q =
    let P : Job → Type 0 = λ r. AreQuiet r.outputs in
    cond_both (not j.connection.accepted) _ _ P
    (λ _. quiet-more j.outputs _ q tt)
    (λ _. cond_both (nat_lt j.connection.unread n) _ _ P (λ _. quiet-more j.outputs _ q tt) (λ _. quiet-more j.outputs _ q tt))
quiet-answered cfg asks.Close j q = quiet-more j.outputs _ q tt

fair-called : (cfg : Cfg) (old : Connection) (ask : Ask) (now : ℕ) (j : Job) → AreQuiet j.outputs → SendsFairly old (called cfg ask now j).connection (called cfg ask now j).outputs
unfolding called
fair-called cfg old ask now j q =
    let P : Job → Type 0 = λ r. SendsFairly old r.connection r.outputs in
    cond_both (is_connect ask) _ _ P
    (λ _. cond_both (is_listen j.connection.state) _ _ P (λ _. fair-connecting cfg old now j q) (λ _. fair-quiet old j.connection j.outputs q))
    (λ _. cond_both (is_live j.connection) _ _ P
    (λ _. fair-quiet old _ _ (quiet-answered cfg ask j q))
    (λ _. fair-quiet old _ _ (quiet-more j.outputs _ q tt)))

-- ## A step and a run
fair-stepped : (cfg : Cfg) (i : Input) (now : ℕ) (j : Job) → AreQuiet j.outputs → IsKept cfg j.connection → SendsFairly j.connection (stepped cfg i now j).connection (stepped cfg i now j).outputs
unfolding stepped
fair-stepped cfg (inputs.Segment w seg) now j q k = fair-arrived cfg j.connection w seg now j q
fair-stepped cfg inputs.Timer now j q k =
    cond_both (is_alive j.connection.state) _ _ (λ (r : Job). SendsFairly j.connection r.connection r.outputs)
    (λ alive. fair-expired cfg now j q alive k)
    (λ _. fair-quiet j.connection j.connection j.outputs q)
fair-stepped cfg (inputs.Call ask) now j q k = fair-called cfg j.connection ask now j q
fair-stepped cfg inputs.Flush now j q k =
    cond_both (is_alive j.connection.state) _ _ (λ (r : Job). SendsFairly j.connection r.connection r.outputs)
    (λ alive. fair-flushed cfg now j.connection j refl q alive k)
    (λ _. fair-quiet j.connection j.connection j.outputs q)

pub fair-step : (cfg : Cfg) (w : Connection) (i : Input) (now : ℕ) → IsKept cfg w → SendsFairly w (step cfg w i now).connection (step cfg w i now).outputs
unfolding step
fair-step cfg w i now k = fair-stepped cfg i now (record { connection = w; outputs = [] }) quiet-none k

pub kept-run : (cfg : Cfg) (w : Connection) (ms : List Moment) → IsInRange cfg → AreWritten ms → IsKept cfg w → IsKept cfg (last cfg w ms)
kept-run cfg w [] range written k = k
kept-run cfg w (m ∷ ms) range written k =
    kept-run cfg (step cfg w m.input m.clock).connection ms range written.2 (kept-step cfg w m.input m.clock range written.0 written.1 k)

pub fair-run : (cfg : Cfg) (w : Connection) (ms : List Moment) → IsInRange cfg → AreWritten ms → IsKept cfg w → EachSendsFairly cfg w ms
fair-run cfg w [] range written k = tt
fair-run cfg w (m ∷ ms) range written k =
    (fair-step cfg w m.input m.clock k, fair-run cfg (step cfg w m.input m.clock).connection ms range written.2 (kept-step cfg w m.input m.clock range written.0 written.1 k))
