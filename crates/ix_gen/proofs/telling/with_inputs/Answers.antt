use Rattle.std.proofs.Common.{◌+◌, ◌∙◌, ap, rules}
use Rattle.ix_gen.specs.Summary.{told_in, told_by, capped, total}
use Rattle.ix_gen.proofs.SummaryLaws.{loop_end, loop_new, loop_step}
use Rattle.ix_gen.proofs.telling.with_inputs.Goals as goal

pub loop-input-preserved : goal.loop-input-preserved
loop-input-preserved c =
    let more = c.with_outputs-told.ensures ∙ ap (λ list. capped (c.loop-input.told + total told_by list)) c.as_slice.ensures in (
      loop_step told_in c.args.inputs.now c.loop-input.input-index c.loop-input.told (told_in c.input-item.result) c.with_outputs-told.result _ _ (search rules)
          (ap told_in c.input-item.is) more c.loop-input.invariant.0,
      loop_new c.with_outputs-told.result c.loop-input.told (told_in c.input-item.result) more,
    )

pub returns : goal.returns
returns c = loop_end told_in c.args.inputs.now c.loop-input.input-index c.loop-input.told _ (search rules) c.loop-input.invariant.1 c.loop-input.invariant.0
