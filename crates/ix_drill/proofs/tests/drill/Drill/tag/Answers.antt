use Rattle.std.proofs.Common.{◌≤◌, refl, sym, subst}
use Rattle.ix_reta.specs.Table.{Table}
use Rattle.ix_drill.proofs.Kept.{carried, open_after, placed_still, same_cores}
use Rattle.ix_drill.proofs.tests.drill.Drill.tag.Goals as goal

pub invariant_of-self : goal.invariant_of-self
invariant_of-self c =
    let before = c.has_room.new.self in
    let rings = carried _ _ _ c.tag.ensures.rings in
    record {
      order = c.order_stays.ensures _ _ _ _ before.order rings (same_cores _);
      placed = placed_still before.nic c.tag.new.self _ _ before.placed rings (same_cores _);
      three = before.three;
      unended = open_after _ _ _ _ (c.tag.ensures.entry 0) (λ b. refl) before.unended;
      room = subst (λ (t : Table). before.moves ≤ t.room) (sym c.tag.ensures.table) before.room;
    }
