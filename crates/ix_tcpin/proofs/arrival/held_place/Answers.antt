use Rattle.std.proofs.Common.{◌<◌, ◌^◌, ℕ, List, rules, ap, ◌∙◌}
use Rattle.ix_base.specs.Sequence.{past_of}
use Rattle.ix_tcpdef.specs.declared.types.HeldHead.{HeldHead}
use Rattle.ix_tcpin.specs.Checks.{distance}
use Rattle.ix_tcpin.specs.Text.{place_among}
use Rattle.ix_tcpin.proofs.HoldLemmas.{place_stands}
use Rattle.ix_tcpin.proofs.arrival.held_place.Goals as goal

pub returns-clause-value : goal.returns-clause-value
returns-clause-value c w seg meets =
    let small : c.args.cfg.now.window < 2 ^ 16 = search rules in
    c.place_among.ensures.value
    ∙ ap (λ (n : ℕ). place_among c.args.tcb.now.rcv_nxt n c.as_slice.result.now) c.past_expected.ensures
    ∙ ap (λ (ss : List HeldHead). place_among c.args.tcb.now.rcv_nxt (past_of (distance c.args.tcb.now c.args.head.now)) ss) c.as_slice.ensures.value
    ∙ place_stands c.args.cfg.now c.args.tcb.now c.args.head.now w seg small meets
