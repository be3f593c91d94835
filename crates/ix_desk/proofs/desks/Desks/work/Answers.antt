use Rattle.std.proofs.Common.{arith, refl, true}
use Rattle.ix_desk.specs.Views.{View}
use Rattle.ix_desk.specs.Steps.{group_leaves}
use Rattle.ix_desk.proofs.Each.{leave-most, group-most}
use Rattle.ix_desk.proofs.Work.{all-rest}
use Rattle.ix_desk.proofs.Order.{worked-order, failed-order}
use Rattle.ix_desk.proofs.desks.Desks.work.Goals as goal

pub overflow_sub-result : goal.overflow_sub-result
overflow_sub-result g c = rw c.in-Ok.ensures.left (leave-most (group_leaves g.U.Unit.counted) (group-most g.U.Unit.counted) c.args.max c.self.inside.groups.items)

pub returns-in-Ok-clause-done : goal.returns-in-Ok-clause-done
returns-in-Ok-clause-done g c =
    λ less.
    let left = c.in-Ok.ensures.left in
    all-rest g.U.Unit.counted g.U.Unit.name g.U.Unit.stepped g.U.Unit.advanced c.args.env.now c.self.inside.core.0 c.args.max c.self.inside.groups.items c.work_groups.new.groups.items
    c.in-Ok.ensures.worked (omega (arith, less, left))

pub returns-in-Ok-clause-order : goal.returns-in-Ok-clause-order
returns-in-Ok-clause-order g c =
    let v : View g.row.U.Denot g.row.U-Item.Denot = record { core = c.self.inside.core.0; failed = c.self.inside.failed; groups = c.self.inside.groups.items } in
    let w : View g.row.U.Denot g.row.U-Item.Denot = record { core = c.self.inside.core.0; failed = c.self.inside.failed; groups = c.work_groups.new.groups.items } in
    rw (← c.self.view_is) (worked-order g.U.Unit.counted g.U.Unit.name g.U.Unit.stepped g.U.Unit.advanced c.args.env.now c.self.inside.core.0 c.args.max v w (record { core = refl; failed = refl; groups = c.in-Ok.ensures.worked }))

pub returns-in-Err-clause-order : goal.returns-in-Err-clause-order
returns-in-Err-clause-order g c =
    let v : View g.row.U.Denot g.row.U-Item.Denot = record { core = c.self.inside.core.0; failed = c.self.inside.failed; groups = c.self.inside.groups.items } in
    let w : View g.row.U.Denot g.row.U-Item.Denot = record { core = c.self.inside.core.0; failed = true; groups = c.work_groups.new.groups.items } in
    rw (← c.self.view_is) (failed-order g.U.Unit.counted g.U.Unit.name g.U.Unit.stepped g.U.Unit.advanced c.args.env.now c.self.inside.core.0 c.args.max v w (record { core = refl; failed = refl; groups = c.in-Err.ensures.failed }))
