use Rattle.std.proofs.Common.{arith, take}
use Rattle.std.proofs.lemmas.Grind.{common_steps}
use Rattle.ix_cp.proofs.PlanLaws.{count_on_bound}
use Rattle.ix_cp.proofs.places.counts_of.Goals as goal

pub enter-requires : goal.enter-requires
enter-requires c =
    λ i h. grind (arith, common_steps, c.loop-core.invariant i h, count_on_bound (take c.loop-core.core-index c.args.at.now) i)
