use Rattle.std.proofs.Common.{◌≡◌, None, length, slice_set, true}
use Rattle.ix_cp.specs.Plan.{GoElsewhere, IsMoveTo, add_plan, carried, due}
use Rattle.ix_cp.proofs.EvenLaws.{Holds-plan, add_plan-evens}
use Rattle.ix_cp.proofs.PlanLaws.{All-plan, add_plan-are_moves}
use Rattle.ix_cp.proofs.ElsewhereLaws.{add_plan-elsewhere}
use Rattle.ix_cp.proofs.plan.plan_add.Goals as goal

pub returns-clause-moves : goal.returns-clause-moves
unfolding add_plan
returns-clause-moves c =
    All-plan (IsMoveTo (slice_set c.args.cores.now.live c.args.core.0 true) (length c.args.at.now)) c.even_out.result
    (add_plan c.args.cores.now.live c.args.core.0 c.args.at.now) c.even_out.ensures
    (add_plan-are_moves c.args.cores.now.live c.args.core.0 c.args.at.now)

pub returns-clause-even : goal.returns-clause-even
unfolding add_plan
returns-clause-even c =
    Holds-plan (λ moves. due (slice_set c.args.cores.now.live c.args.core.0 true) (carried moves c.args.at.now) ≡ None) c.even_out.result
    (add_plan c.args.cores.now.live c.args.core.0 c.args.at.now) c.even_out.ensures
    (add_plan-evens c.args.cores.now.live c.args.core.0 c.args.at.now)

pub returns-clause-elsewhere : goal.returns-clause-elsewhere
unfolding add_plan
returns-clause-elsewhere c =
    Holds-plan (GoElsewhere c.args.at.now) c.even_out.result (add_plan c.args.cores.now.live c.args.core.0 c.args.at.now) c.even_out.ensures
    (add_plan-elsewhere c.args.cores.now.live c.args.core.0 c.args.at.now)
