use Rattle.std.proofs.Common.{rules}
use Rattle.ix_core.proofs.Closings.{pools_more, pools_none}
use Rattle.ix_core.proofs.closing.pools_of.Goals as goal

pub loop-core-init : goal.loop-core-init
loop-core-init g c = pools_none _ _ (search rules)

pub loop-core-preserved : goal.loop-core-preserved
loop-core-preserved g c = pools_more _ _ _ _ _ _ (search rules) c.core-item.is c.in_ok-push.ensures.items c.free.ensures.count c.free.ensures.homes c.free.ensures.foreign c.loop-core.invariant
