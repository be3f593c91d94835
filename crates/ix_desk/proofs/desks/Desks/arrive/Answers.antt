use Rattle.std.proofs.Common.{◌<◌, length, arith}
use Rattle.std.specs.Prelude.{nat_lt, not, ◌&&◌, ◌==◌}
use Rattle.std.proofs.lemmas.Bool.Decides.{nat_tests}
use Rattle.ix_desk.specs.Views.{View}
use Rattle.ix_desk.specs.Groups.{landed}
use Rattle.ix_desk.specs.Tenures.{has_arrived}
use Rattle.ix_desk.specs.Desks.{group_at}
use Rattle.ix_desk.proofs.Places.{and-left, writes}
use Rattle.ix_desk.proofs.desks.Desks.arrive.Goals as goal

pub index_mut-group-requires : goal.index_mut-group-requires
index_mut-group-requires g c =
    let v : View g.row.U.Denot g.row.U-Item.Denot = record { core = c.self.inside.core.0; failed = c.self.inside.failed; groups = c.self.inside.groups.items } in
    let req = rw (← c.self.view_is) at c.requires in
    let first = and-left (nat_lt c.args.s.group.0 512 && (c.args.s.to.0 == v.core)) (nat_lt 0 c.args.s.tenure && not (has_arrived c.args.s.tenure (group_at v c.args.s.group.0).arrived)) req in
    let small = and-left (nat_lt c.args.s.group.0 512) (c.args.s.to.0 == v.core) first in
    let at = c.from.ensures in
    let size = c.self.invariant in
    let lt : c.from.result < length c.self.inside.groups.items = grind (arith, nat_tests) in
    omega arith

pub returns-in_default-clause-ok : goal.returns-in_default-clause-ok
returns-in_default-clause-ok g c =
    let v : View g.row.U.Denot g.row.U-Item.Denot = record { core = c.self.inside.core.0; failed = c.self.inside.failed; groups = c.self.inside.groups.items } in
    let req = rw (← c.self.view_is) at c.requires in
    let first = and-left (nat_lt c.args.s.group.0 512 && (c.args.s.to.0 == v.core)) (nat_lt 0 c.args.s.tenure && not (has_arrived c.args.s.tenure (group_at v c.args.s.group.0).arrived)) req in
    let small = and-left (nat_lt c.args.s.group.0 512) (c.args.s.to.0 == v.core) first in
    let at = c.from.ensures in
    let size = c.self.invariant in
    let lt : c.from.result < length c.self.inside.groups.items = grind (arith, nat_tests) in
    rw (← c.self.view_is) (writes v c.from.result c.args.s.group.0 c.index_mut-group.result.now c.arrive.new.self
    (λ x. landed x (record { tenure = c.args.s.tenure; unit = c.args.s.unit; queue = c.args.s.queue })) at lt c.index_mut-group.ensures.value c.in_default.ensures.ok)
