use Rattle.std.proofs.Common.{rules}
use Rattle.ix_core.proofs.Countings.{homes_none}
use Rattle.ix_core.proofs.counting.homes_of.Goals as goal

pub loop-place-init : goal.loop-place-init
loop-place-init g c = homes_none _ _ _ _ (search rules)
