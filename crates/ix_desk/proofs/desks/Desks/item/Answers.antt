use Rattle.std.proofs.Common.{◌≡◌, ◌<◌, length, arith, set}
use Rattle.std.specs.Prelude.{nat_lt}
use Rattle.std.proofs.lemmas.Bool.Decides.{nat_tests}
use Rattle.std.proofs.lemmas.Result.{on_ok_weaker, IfErr-weaker}
use Rattle.ix_desk.specs.Views.{View}
use Rattle.ix_desk.specs.Groups.{fits, taken}
use Rattle.ix_desk.specs.Desks.{group_at}
use Rattle.ix_desk.proofs.Places.{and-left, and-right, reads, writes, keeps}
use Rattle.ix_desk.proofs.desks.Desks.item.Goals as goal

pub item-requires : goal.item-requires
item-requires g c =
    let v : View g.row.U.Denot g.row.U-Item.Denot = record { core = c.self.inside.core.0; failed = c.self.inside.failed; groups = c.self.inside.groups.items } in
    let req = rw (← c.self.view_is) at c.requires in
    let small = and-left (nat_lt c.args.g.0 512) (fits (group_at v c.args.g.0) c.args.it) req in
    let fit = and-right (nat_lt c.args.g.0 512) (fits (group_at v c.args.g.0) c.args.it) req in
    let at = c.from.ensures in
    let size = c.self.invariant in
    let lt : c.from.result < length c.self.inside.groups.items = grind (arith, nat_tests) in
    let same = reads v c.from.result c.args.g.0 c.index_mut-group.result.now at lt c.index_mut-group.ensures.value in
    rw (← same) fit

pub returns-clause-ok : goal.returns-clause-ok
returns-clause-ok g c =
    let v : View g.row.U.Denot g.row.U-Item.Denot = record { core = c.self.inside.core.0; failed = c.self.inside.failed; groups = c.self.inside.groups.items } in
    let req = rw (← c.self.view_is) at c.requires in
    let small = and-left (nat_lt c.args.g.0 512) (fits (group_at v c.args.g.0) c.args.it) req in
    let at = c.from.ensures in
    let size = c.self.invariant in
    let lt : c.from.result < length c.self.inside.groups.items = grind (arith, nat_tests) in
    on_ok_weaker c.item.result
    (λ made. rw (← c.self.view_is) (writes v c.from.result c.args.g.0 c.index_mut-group.result.now c.item.new.self (λ x. taken x c.args.it) at lt c.index_mut-group.ensures.value made))
    c.item.ensures.ok

pub returns-clause-back : goal.returns-clause-back
returns-clause-back g c =
    let v : View g.row.U.Denot g.row.U-Item.Denot = record { core = c.self.inside.core.0; failed = c.self.inside.failed; groups = c.self.inside.groups.items } in
    let w : View g.row.U.Denot g.row.U-Item.Denot = record { core = c.self.inside.core.0; failed = c.self.inside.failed; groups = set c.self.inside.groups.items c.from.result c.item.new.self } in
    IfErr-weaker c.item.result
    (λ b. (b.item ≡ c.args.it) × (c.item.new.self ≡ c.index_mut-group.result.now))
    (λ b. (b.item ≡ c.args.it) × (w ≡ c.args.self.now))
    (λ b e. (e.0, rw (← c.self.view_is) (keeps v c.from.result c.args.g.0 c.index_mut-group.result.now c.item.new.self c.index_mut-group.ensures.value e.1)))
    c.item.ensures.back
