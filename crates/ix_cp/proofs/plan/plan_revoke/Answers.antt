use Rattle.std.proofs.Common.{length, slice_set, false}
use Rattle.ix_cp.specs.Plan.{GoElsewhere, IsMoveTo, revoke_plan}
use Rattle.ix_cp.proofs.PlanLaws.{All-plan, revoke_plan-are_moves}
use Rattle.ix_cp.proofs.EvenLaws.{Holds-plan}
use Rattle.ix_cp.proofs.ElsewhereLaws.{revoke_plan-elsewhere}
use Rattle.ix_cp.proofs.plan.plan_revoke.Goals as goal

pub returns-clause-moves : goal.returns-clause-moves
unfolding revoke_plan
returns-clause-moves c =
    All-plan (IsMoveTo (slice_set c.args.cores.now.live c.args.core.0 false) (length c.args.at.now)) c.give_up.result
    (revoke_plan c.args.cores.now.live c.args.core.0 c.args.at.now) c.give_up.ensures
    (revoke_plan-are_moves c.args.cores.now.live c.args.core.0 c.args.at.now)

pub returns-clause-elsewhere : goal.returns-clause-elsewhere
unfolding revoke_plan
returns-clause-elsewhere c =
    Holds-plan (GoElsewhere c.args.at.now) c.give_up.result (revoke_plan c.args.cores.now.live c.args.core.0 c.args.at.now) c.give_up.ensures
    (revoke_plan-elsewhere c.args.cores.now.live c.args.core.0 c.args.at.now)
