-- Each segment carries bytes of the send queue, as many as its head says.
use Rattle.std.proofs.Common.{◌≡◌, ℕ, zero, suc, ◌+◌, ◌-◌, ◌<◌, ◌≤◌, List, [], ◌∷◌, ◌++◌, length, arith, refl, subst, ◌∙◌}
use Rattle.std.specs.Prelude.{nat_le, ◌&&◌, ◌==◌, not, min}
use Rattle.std.specs.List.{All}
use Rattle.std.proofs.lemmas.Bool.{cond_both}
use Rattle.std.proofs.lemmas.List.Elements.{All-append, All-nil, All-cons, All-push}
use Rattle.ix_tcpdef.specs.Connection.{is_time_wait}
use Rattle.ix_tcpdef.specs.Flush.{resends, sends}
use Rattle.ix_tcpdef.specs.declared.types.Cfg.{Cfg}
use Rattle.ix_tcpdef.specs.declared.types.State.{State}
use Rattle.ix_tcpdef.specs.declared.types.State.TheVariants as st
use Rattle.ix_tcpdef.specs.declared.types.Tcb.{Tcb}
use Rattle.ix_tcpout.specs.declared.outs.OutSeg.{OutSeg}
use Rattle.ix_tcpout.specs.Heads.{bare, bytes, sent_bytes, again_in}
use Rattle.ix_tcpout.specs.Given.{LiesIn}
use Rattle.ix_tcpout.specs.Parts.{Work, work, flight, unsent_bytes, sendable_bytes, segments, resend_part, data_part, fin_part, ack_part, all_parts}
use Rattle.ix_tcpout.specs.Expiry.{Fired, collapse_in, counted, retransmission, probe, fired}

lies-bare : (cfg : Cfg) (t : Tcb) (seq flags queued : ℕ) → LiesIn queued (bare cfg t seq flags)
lies-bare cfg t seq flags queued = record { order = omega arith; within = omega arith; len = refl }

lies-bytes : (cfg : Cfg) (t : Tcb) (from n : ℕ) → from + n ≤ t.queued → LiesIn t.queued (bytes cfg t from n)
lies-bytes cfg t from n within = record { order = omega arith; within = within; len = omega arith }

lies-again : (s : State) (cfg : Cfg) (t : Tcb) → LiesIn t.queued (again_in s cfg t)
lies-again st.SynSent cfg t = record { order = omega arith; within = omega arith; len = refl }
lies-again st.SynReceived cfg t = record { order = omega arith; within = omega arith; len = refl }
lies-again _ cfg t =
    cond_both (sent_bytes t == 0) _ _ (LiesIn t.queued)
    (λ _. lies-bare cfg t _ _ t.queued)
    (λ _. lies-bytes cfg t 0 (min t.mss (sent_bytes t)) (omega arith))

lies-segments : (cfg : Cfg) (t : Tcb) (most from left : ℕ) → (0 < left → from + left ≤ t.queued) → All (LiesIn t.queued) (segments cfg t most from left)
lies-segments cfg t zero from left within = All-nil (LiesIn t.queued)
lies-segments cfg t (suc most) from zero within = All-nil (LiesIn t.queued)
lies-segments cfg t (suc most) from (suc left) within =
    let room : from + suc left ≤ t.queued = within (omega arith) in
    All-cons (LiesIn t.queued) _ _ (lies-bytes cfg t from (min t.mss (suc left)) (omega arith))
    (lies-segments cfg t most (from + min t.mss (suc left)) (suc left - min t.mss (suc left)) (λ some. omega (arith, room, some)))

-- ## The parts of a flush
abbrev LieAll : Work → Type 0
LieAll k = All (LiesIn k.numbers.queued) k.entries

lies-pushed : (queued : ℕ) (es : List OutSeg) (e : OutSeg) → All (LiesIn queued) es → LiesIn queued e → All (LiesIn queued) (es ++ e ∷ [])
lies-pushed queued es e before here = All-push (LiesIn queued) es e before here

lies-resend : (cfg : Cfg) (k : Work) → LieAll k → LieAll (resend_part cfg k)
unfolding resend_part
lies-resend cfg k before =
    cond_both (k.numbers.resend && resends k.numbers.state) _ _ LieAll
    (λ _. lies-pushed k.numbers.queued k.entries _ before (lies-again k.numbers.state cfg k.numbers))
    (λ _. before)

lies-data : (cfg : Cfg) (k : Work) → LieAll k → LieAll (data_part cfg k)
unfolding data_part
lies-data cfg k before =
    cond_both (sends k.numbers.state) _ _ LieAll
    (λ _. All-append (LiesIn k.numbers.queued) k.entries _ before (lies-segments cfg k.numbers _ (flight k.numbers) (sendable_bytes k.numbers) (λ some. within (flight k.numbers) k.numbers.queued (min k.numbers.wnd k.numbers.cwnd) some)))
    (λ _. before)
  where
    within : (flight queued window : ℕ) → 0 < min (window - flight) (queued - flight) → flight + min (window - flight) (queued - flight) ≤ queued
    within flight queued window some = omega (arith, some)

lies-fin : (cfg : Cfg) (k : Work) → LieAll k → LieAll (fin_part cfg k)
unfolding fin_part
lies-fin cfg k before =
    cond_both (sends k.numbers.state && k.numbers.fin_wanted && not k.numbers.fin_sent && (unsent_bytes k.numbers == 0)) _ _ LieAll
    (λ _. lies-pushed k.numbers.queued k.entries _ before (lies-bare cfg k.numbers _ _ k.numbers.queued))
    (λ _. before)

lies-ack : (cfg : Cfg) (k : Work) → LieAll k → LieAll (ack_part cfg k)
unfolding ack_part
lies-ack cfg k before =
    cond_both (k.numbers.ack_owed && (length k.entries == 0)) _ _ LieAll
    (λ _. lies-pushed k.numbers.queued k.entries _ before (lies-bare cfg k.numbers _ _ k.numbers.queued))
    (λ _. before)

-- no part changes the send queue
queued-resend : (cfg : Cfg) (k : Work) → (resend_part cfg k).numbers.queued ≡ k.numbers.queued
unfolding resend_part
queued-resend cfg k = cond_both (k.numbers.resend && resends k.numbers.state) _ _ (λ (r : Work). r.numbers.queued ≡ k.numbers.queued) (λ _. refl) (λ _. refl)

queued-data : (cfg : Cfg) (k : Work) → (data_part cfg k).numbers.queued ≡ k.numbers.queued
unfolding data_part
queued-data cfg k = cond_both (sends k.numbers.state) _ _ (λ (r : Work). r.numbers.queued ≡ k.numbers.queued) (λ _. refl) (λ _. refl)

queued-fin : (cfg : Cfg) (k : Work) → (fin_part cfg k).numbers.queued ≡ k.numbers.queued
unfolding fin_part
queued-fin cfg k = cond_both (sends k.numbers.state && k.numbers.fin_wanted && not k.numbers.fin_sent && (unsent_bytes k.numbers == 0)) _ _ (λ (r : Work). r.numbers.queued ≡ k.numbers.queued) (λ _. refl) (λ _. refl)

queued-ack : (cfg : Cfg) (k : Work) → (ack_part cfg k).numbers.queued ≡ k.numbers.queued
unfolding ack_part
queued-ack cfg k = cond_both (k.numbers.ack_owed && (length k.entries == 0)) _ _ (λ (r : Work). r.numbers.queued ≡ k.numbers.queued) (λ _. refl) (λ _. refl)

same-queued : (cfg : Cfg) (t : Tcb) → (ack_part cfg (fin_part cfg (data_part cfg (resend_part cfg (work t []))))).numbers.queued ≡ t.queued
same-queued cfg t = queued-ack cfg _ ∙ queued-fin cfg _ ∙ queued-data cfg _ ∙ queued-resend cfg (work t [])

pub lies-all : (cfg : Cfg) (now : ℕ) (t : Tcb) → All (LiesIn t.queued) (all_parts cfg now (work t [])).entries
unfolding all_parts
lies-all cfg now t =
    subst (λ (q : ℕ). All (LiesIn q) (ack_part cfg (fin_part cfg (data_part cfg (resend_part cfg (work t []))))).entries) (same-queued cfg t)
    (lies-ack cfg _ (lies-fin cfg _ (lies-data cfg _ (lies-resend cfg (work t []) (All-nil (LiesIn t.queued))))))

-- ## A due timer
collapse-queued : (s : State) (t : Tcb) → (collapse_in s t).queued ≡ t.queued
collapse-queued st.SynSent t = refl
collapse-queued st.SynReceived t = refl
collapse-queued _ t = refl

pub lies-fired : (cfg : Cfg) (now : ℕ) (t : Tcb) → All (LiesIn t.queued) (fired cfg now t).outs.entries.items
unfolding fired retransmission probe
lies-fired cfg now t =
    let P : Fired → Type 0 = λ f. All (LiesIn t.queued) f.outs.entries.items in
    cond_both (is_time_wait t.state) _ _ P
    (λ _. All-nil (LiesIn t.queued))
    (λ _. cond_both (not (t.una == t.nxt)) _ _ P
    (λ _. cond_both (nat_le cfg.retries (t.expiries + 1)) _ _ P
    (λ _. All-nil (LiesIn t.queued))
    (λ _. All-cons (LiesIn t.queued) _ [] (subst (λ (q : ℕ). LiesIn q (again_in t.state cfg (counted cfg now (t.expiries + 1) (collapse_in t.state t)))) (collapse-queued t.state t) (lies-again t.state cfg (counted cfg now (t.expiries + 1) (collapse_in t.state t)))) (All-nil (LiesIn t.queued))))
    (λ _. All-cons (LiesIn t.queued) _ [] (lies-bare cfg t _ _ t.queued) (All-nil (LiesIn t.queued))))
