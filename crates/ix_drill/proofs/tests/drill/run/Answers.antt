use Rattle.std.proofs.Common.{rules}
use Rattle.ix_drill.proofs.Kept.{all_stepped}
use Rattle.ix_drill.proofs.tests.drill.run.Goals as goal

pub returns : goal.returns
returns g c = all_stepped _ _ (search rules) (λ i d lt. (c.epoch.ensures.own i d lt).ends)
