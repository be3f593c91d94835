use Rattle.std.proofs.Common.{arith}
use Rattle.std.proofs.lemmas.Grind.{common_steps}
use Rattle.ix_cp.proofs.PlanLaws.{leave_steps}
use Rattle.ix_cp.proofs.plan.give_up.Goals as goal
use Rattle.ix_cp.proofs.plan.give_up.Goals.{then-owner-core+in-Some+in_ok-push-in-Some, else-owner-core}

pub returns-in-None : goal.returns-in-None
returns-in-None c = grind (arith, common_steps, leave_steps)

pub loop-place-preserved : goal.loop-place-preserved
loop-place-preserved c =
    elim c.if-owner-core.branch [
      | then-owner-core+in-Some+in_ok-push-in-Some w ↦ grind (arith, common_steps, leave_steps)
      | else-owner-core w ↦ grind (arith, common_steps, leave_steps)
    ]

pub returns : goal.returns
returns c = grind (arith, common_steps, leave_steps)
