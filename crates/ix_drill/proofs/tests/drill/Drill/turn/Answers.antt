use Rattle.std.proofs.Common.{ap, arith, refl}
use Rattle.ix_reta.specs.Table.{Table}
use Rattle.ix_drill.proofs.Kept.{carried, open_after, placed_still, same_cores}
use Rattle.ix_drill.proofs.tests.drill.Drill.turn.Goals as goal

pub invariant_of-self : goal.invariant_of-self
invariant_of-self c =
    let before = c.has_room.new.self in
    let rings = carried _ _ _ c.turn.ensures.rings in
    record {
      order = c.order_stays.ensures _ _ _ _ before.order rings (same_cores _);
      placed = placed_still before.nic c.turn.new.self _ _ before.placed rings (same_cores _);
      three = before.three;
      unended = open_after _ _ _ _ (c.turn.ensures.entry 0) (λ b. refl) before.unended;
      room = let left = ap (λ (t : Table). t.room) c.turn.ensures.table in omega (arith, left, before.room);
    }
