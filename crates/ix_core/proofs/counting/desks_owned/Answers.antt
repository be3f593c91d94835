use Rattle.std.proofs.Common.{rules}
use Rattle.ix_core.proofs.Countings.{owned_more}
use Rattle.ix_core.proofs.counting.desks_owned.Goals as goal

pub loop-g-preserved : goal.loop-g-preserved
loop-g-preserved g c = rw (c.plus-sum.ensures, c.loop-g.invariant, c.group_owned-here.ensures) (owned_more g.G.GroupStack.owners c.args.home.0 c.args.desks.now.groups c.loop-g.g (search rules))
