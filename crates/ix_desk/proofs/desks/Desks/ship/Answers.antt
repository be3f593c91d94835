use Rattle.std.proofs.Common.{◌≡◌, ◌∙◌, List, get_or, sym, ap, arith}
use Rattle.std.specs.Prelude.{None}
use Rattle.ix_desk.specs.Views.{Group, View}
use Rattle.ix_desk.specs.Groups.{empty}
use Rattle.ix_desk.proofs.Cuts.{done-unit}
use Rattle.ix_desk.proofs.Order.{shipped-order}
use Rattle.ix_desk.proofs.desks.Desks.ship.Goals as goal

pub unreachable-requires : goal.unreachable-requires
unreachable-requires g c =
    let some = done-unit (get_or c.self.inside.groups.items c.in_ok-place.place empty).cut c.in_ok-place.piece c.in_ok-place.ensures.done in
    let gone : c.in_ok-place.piece.piece.unit ≡ None = sym c.into_parts-tenure.ensures.2 ∙ c.in_default.is in
    let bad = rw gone at some in
    cc

pub returns-clause-ships : goal.returns-clause-ships
returns-clause-ships g c =
    let whole = λ (gs : List (Group g.row.U.Denot g.row.U-Item.Denot)). let w : View g.row.U.Denot g.row.U-Item.Denot = record { core = c.self.inside.core.0; failed = c.self.inside.failed; groups = gs } in w in
    let size = c.self.invariant in
    let lt = c.in_ok-place.ensures.within in
    rw (← c.self.view_is) (record {
      within = omega (arith, lt);
      piece = c.in_ok-place.piece;
      done = c.in_ok-place.ensures.done;
      to_core = sym c.into_parts-tenure.ensures.0;
      its_unit = sym c.into_parts-tenure.ensures.2 ∙ c.in-Some.is;
      rest = sym c.into_parts-tenure.ensures.3;
      next = c.into_parts-tenure.ensures.1;
      over = ap whole c.in_ok-place.ensures.shipped;
    })

pub returns-clause-order : goal.returns-clause-order
returns-clause-order g c =
    let v : View g.row.U.Denot g.row.U-Item.Denot = record { core = c.self.inside.core.0; failed = c.self.inside.failed; groups = c.self.inside.groups.items } in
    rw (← c.self.view_is, c.in_ok-place.ensures.shipped) (shipped-order v c.in_ok-place.place)
