use Rattle.std.proofs.Common.{arith}
use Rattle.std.proofs.lemmas.Grind.{common_steps}
use Rattle.ix_cp.proofs.PlanLaws.{count_on-set}
use Rattle.ix_cp.proofs.places.Places.put.Goals as goal

pub invariant_of-self : goal.invariant_of-self
invariant_of-self c = (
  grind (arith, common_steps),
  λ core h. grind (arith, common_steps, count_on-set, c.enter.ensures core h, c.leave.ensures core h, c.self.invariant.1 core h),
)
