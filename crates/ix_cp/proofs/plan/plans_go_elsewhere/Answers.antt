use Rattle.ix_cp.proofs.ElsewhereLaws.{are_plans}
use Rattle.ix_cp.proofs.plan.plans_go_elsewhere.Goals as goal

pub returns : goal.returns
returns c = are_plans
