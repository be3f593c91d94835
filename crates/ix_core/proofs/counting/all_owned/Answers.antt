use Rattle.std.proofs.Common.{rules}
use Rattle.ix_core.proofs.Countings.{owned_next}
use Rattle.ix_core.proofs.counting.all_owned.Goals as goal

pub loop-core-preserved : goal.loop-core-preserved
loop-core-preserved g c = rw (c.plus-sum.ensures, c.loop-core.invariant, c.desks_owned-here.ensures) (owned_next g.G.GroupStack.owners c.args.home.0 c.args.cores.now c.loop-core.core-index _ (search rules) c.core-item.is)
