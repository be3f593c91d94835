use Rattle.std.proofs.Common.{refl, rules}
use Rattle.ix_gen.specs.Summary.{told_by}
use Rattle.ix_gen.proofs.SummaryLaws.{loop_end, loop_new, loop_step}
use Rattle.ix_gen.proofs.telling.with_outputs.Goals as goal

pub loop-output-init : goal.loop-output-init
loop-output-init c = (refl, c.ranges.sum.fits)

pub loop-output-preserved : goal.loop-output-preserved
loop-output-preserved c = (
  loop_step told_by c.args.outputs.now c.loop-output.output-index c.loop-output.told c.told_by.result c.capped_sum-told.result _ _ (search rules) (c.told_by.ensures) c.capped_sum-told.ensures c.loop-output.invariant.0,
  loop_new c.capped_sum-told.result c.loop-output.told c.told_by.result c.capped_sum-told.ensures,
)

pub returns : goal.returns
returns c = loop_end told_by c.args.outputs.now c.loop-output.output-index c.loop-output.told _ (search rules) c.loop-output.invariant.1 c.loop-output.invariant.0
