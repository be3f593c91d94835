use Rattle.std.proofs.Common.{ℕ, ◌^◌, ◌<◌, drop, rules, ap, sym, subst, ◌∙◌}
use Rattle.ix_tcpin.specs.Work.{Work, work}
use Rattle.ix_tcpin.specs.declared.verdict.Verdict.{Verdict}
use Rattle.ix_tcpin.specs.Work.{blank}
use Rattle.ix_tcpin.specs.Verdict.{LiesWithin}
use Rattle.ix_tcpin.specs.Arrived.{arrived_part}
use Rattle.ix_tcpin.proofs.ArrivalLemmas.{says-of}
use Rattle.ix_tcpdef.specs.Stands.{send_queue}
use Rattle.ix_tcpin.proofs.QueueLemmas.{queue-left}
use Rattle.ix_tcpin.proofs.RangeLemmas.{within-arrived}
use Rattle.ix_tcpin.proofs.HoldLemmas.{placed-of}
use Rattle.ix_tcpin.proofs.TakeLemmas.{taken-of}
use Rattle.ix_base.specs.declared.segment.SegHead.{SegHead}
use Rattle.ix_tcpdef.specs.declared.types.Input.TheVariants as inputs
use Rattle.ix_tcpin.proofs.arrival.arrive.Goals as goal

pub returns-clause-stands : goal.returns-clause-stands
returns-clause-stands c w n seg meets =
    let small : c.args.cfg.now.window < 2 ^ 16 = search rules in
    let ack : c.args.head.now.ack < 2 ^ 32 = search rules in
    let window : c.args.head.now.window < 2 ^ 16 = search rules in
    c.numbers_stand_on.ensures.on c.args.cfg.now c.args.tcb.now c.take.new.tcb w (inputs.Segment n seg) c.args.now
    meets.framed
    (subst (λ (h : SegHead). h.window < 2 ^ 16) (sym meets.head) window)
    meets.stands
    (says-of c.arrivals_keep.ensures.acknowledgements c.args.cfg.now c.args.tcb.now c.args.head.now c.args.now w n seg c.as_slice.result.now c.blank-verdict.result c.take.new.tcb c.take.new.verdict small ack window c.as_slice.ensures.value c.blank-verdict.ensures c.take.ensures meets).numbers

pub returns-clause-outputs : goal.returns-clause-outputs
returns-clause-outputs c w n seg meets =
    let small : c.args.cfg.now.window < 2 ^ 16 = search rules in
    let ack : c.args.head.now.ack < 2 ^ 32 = search rules in
    let window : c.args.head.now.window < 2 ^ 16 = search rules in
    (says-of c.arrivals_keep.ensures.acknowledgements c.args.cfg.now c.args.tcb.now c.args.head.now c.args.now w n seg c.as_slice.result.now c.blank-verdict.result c.take.new.tcb c.take.new.verdict small ack window c.as_slice.ensures.value c.blank-verdict.ensures c.take.ensures meets).outputs

pub returns-clause-pieces : goal.returns-clause-pieces
returns-clause-pieces c w n seg meets =
    let small : c.args.cfg.now.window < 2 ^ 16 = search rules in
    let ack : c.args.head.now.ack < 2 ^ 32 = search rules in
    let window : c.args.head.now.window < 2 ^ 16 = search rules in
    (says-of c.arrivals_keep.ensures.acknowledgements c.args.cfg.now c.args.tcb.now c.args.head.now c.args.now w n seg c.as_slice.result.now c.blank-verdict.result c.take.new.tcb c.take.new.verdict small ack window c.as_slice.ensures.value c.blank-verdict.ensures c.take.ensures meets).pieces

pub returns-clause-held : goal.returns-clause-held
returns-clause-held c w n seg meets =
    let small : c.args.cfg.now.window < 2 ^ 16 = search rules in
    let ack : c.args.head.now.ack < 2 ^ 32 = search rules in
    let window : c.args.head.now.window < 2 ^ 16 = search rules in
    (says-of c.arrivals_keep.ensures.acknowledgements c.args.cfg.now c.args.tcb.now c.args.head.now c.args.now w n seg c.as_slice.result.now c.blank-verdict.result c.take.new.tcb c.take.new.verdict small ack window c.as_slice.ensures.value c.blank-verdict.ensures c.take.ensures meets).held

pub returns-clause-acked : goal.returns-clause-acked
returns-clause-acked c w n seg meets =
    let small : c.args.cfg.now.window < 2 ^ 16 = search rules in
    let ack : c.args.head.now.ack < 2 ^ 32 = search rules in
    let window : c.args.head.now.window < 2 ^ 16 = search rules in
    (says-of c.arrivals_keep.ensures.acknowledgements c.args.cfg.now c.args.tcb.now c.args.head.now c.args.now w n seg c.as_slice.result.now c.blank-verdict.result c.take.new.tcb c.take.new.verdict small ack window c.as_slice.ensures.value c.blank-verdict.ensures c.take.ensures meets).acked

pub returns-clause-ended : goal.returns-clause-ended
returns-clause-ended c w n seg meets =
    let small : c.args.cfg.now.window < 2 ^ 16 = search rules in
    let ack : c.args.head.now.ack < 2 ^ 32 = search rules in
    let window : c.args.head.now.window < 2 ^ 16 = search rules in
    (says-of c.arrivals_keep.ensures.acknowledgements c.args.cfg.now c.args.tcb.now c.args.head.now c.args.now w n seg c.as_slice.result.now c.blank-verdict.result c.take.new.tcb c.take.new.verdict small ack window c.as_slice.ensures.value c.blank-verdict.ensures c.take.ensures meets).ended

pub returns-clause-take : goal.returns-clause-take
returns-clause-take c w n seg meets =
    let small : c.args.cfg.now.window < 2 ^ 16 = search rules in
    let ack : c.args.head.now.ack < 2 ^ 32 = search rules in
    let window : c.args.head.now.window < 2 ^ 16 = search rules in
    taken-of c.arrivals_keep.ensures.acknowledgements c.args.cfg.now c.args.tcb.now c.args.head.now c.args.now w n seg c.as_slice.result.now c.blank-verdict.result c.take.new.tcb c.take.new.verdict small ack window c.as_slice.ensures.value c.blank-verdict.ensures c.take.ensures meets

pub returns-clause-ranges : goal.returns-clause-ranges
returns-clause-ranges c =
    subst (λ (x : Work). LiesWithin c.args.head.now.len c.args.tcb.now.held.items c.args.tcb.now.queued x.verdict)
    (sym (c.take.ensures ∙ ap (λ (b : Verdict). arrived_part c.args.cfg.now c.args.head.now c.args.now (work c.args.tcb.now b)) (c.blank-verdict.ensures ∙ ap blank c.as_slice.ensures.value)))
    (within-arrived c.args.cfg.now c.args.head.now c.args.now c.args.tcb.now)

pub returns-clause-queue : goal.returns-clause-queue
returns-clause-queue c w n seg meets =
    let small : c.args.cfg.now.window < 2 ^ 16 = search rules in
    let ack : c.args.head.now.ack < 2 ^ 32 = search rules in
    let window : c.args.head.now.window < 2 ^ 16 = search rules in
    queue-left c.args.cfg.now c.args.now w n seg meets.stands.kept meets.stands.opened
    ∙ ap (λ (m : ℕ). drop m (send_queue w)) (sym (says-of c.arrivals_keep.ensures.acknowledgements c.args.cfg.now c.args.tcb.now c.args.head.now c.args.now w n seg c.as_slice.result.now c.blank-verdict.result c.take.new.tcb c.take.new.verdict small ack window c.as_slice.ensures.value c.blank-verdict.ensures c.take.ensures meets).acked)

pub returns-clause-placed : goal.returns-clause-placed
returns-clause-placed c w n seg from to meets take =
    let small : c.args.cfg.now.window < 2 ^ 16 = search rules in
    let ack : c.args.head.now.ack < 2 ^ 32 = search rules in
    let window : c.args.head.now.window < 2 ^ 16 = search rules in
    (says-of c.arrivals_keep.ensures.acknowledgements c.args.cfg.now c.args.tcb.now c.args.head.now c.args.now w n seg c.as_slice.result.now c.blank-verdict.result c.take.new.tcb c.take.new.verdict small ack window c.as_slice.ensures.value c.blank-verdict.ensures c.take.ensures meets).held
    ∙ placed-of c.arrivals_keep.ensures.held c.args.cfg.now c.args.tcb.now c.args.head.now c.args.now w n seg c.as_slice.result.now c.blank-verdict.result c.take.new.tcb c.take.new.verdict from to ack c.as_slice.ensures.value c.blank-verdict.ensures c.take.ensures meets take
