use Rattle.std.proofs.Common.{◌≡◌, ◌<◌, ◌∙◌, ap, sym, refl, length, arith}
use borrow.Follows.Closed.{read_of}
use Rattle.std.specs.Option.{ghost_name_of}
use Rattle.ix_desk.specs.Views.{Group, View}
use Rattle.ix_desk.specs.Groups.{unit_of, changed}
use Rattle.ix_desk.specs.Desks.{group_at, with_group}
use Rattle.ix_desk.proofs.Places.{reads}
use Rattle.ix_desk.proofs.desks.Desks.unit_mut_at.Goals as goal

pub returns : goal.returns
returns g c =
    let v : View g.row.U.Denot g.row.U-Item.Denot = record { core = c.self.inside.core.0; failed = c.self.inside.failed; groups = c.self.inside.groups.items } in
    let place = c.args.place in
    let size = c.self.invariant in
    let req = c.requires in
    let lt : place < length c.self.inside.groups.items = omega arith in
    let x : Group g.row.U.Denot g.row.U-Item.Denot = c.index_mut-group.result.now in
    let same : x ≡ group_at v place = sym (reads v place place x refl lt c.index_mut-group.ensures.value) in
    rw (← c.self.view_is) (
      λ t. read_of (ghost_name_of c.unit_mut.result) (λ (w : g.row.U.Denot). ap (λ (y : Group g.row.U.Denot g.row.U-Item.Denot). with_group v place (changed y w)) same t) (ap (λ (y : Group g.row.U.Denot g.row.U-Item.Denot). with_group v place y) same t),
      record { writes_back = tt; value = c.unit_mut.ensures.value ∙ ap (λ (y : Group g.row.U.Denot g.row.U-Item.Denot). unit_of y) same },
    )
