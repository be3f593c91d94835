use Rattle.ix_core.proofs.Closings.{finishes_no}
use Rattle.ix_core.proofs.closing.finish_here.Goals as goal

pub returns-in_default-clause-finishes : goal.returns-in_default-clause-finishes
returns-in_default-clause-finishes g c = finishes_no _ c.args.g.0 _ _ _ c.in_default.ensures.unit
