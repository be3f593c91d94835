use Rattle.std.proofs.Common.{◌≤◌, sym, subst}
use Rattle.ix_reta.specs.Table.{Table}
use Rattle.ix_drill.proofs.Kept.{carried, open_retried, placed_still, same_cores}
use Rattle.ix_drill.proofs.tests.drill.Drill.has_room.Goals as goal

pub invariant_of-self : goal.invariant_of-self
invariant_of-self c =
    let rings = carried _ _ _ c.retry.ensures.rings in
    record {
      order = c.order_stays.ensures _ _ _ _ c.args.self.now.order rings (same_cores _);
      placed = placed_still c.args.self.now.nic c.retry.new.self _ _ c.args.self.now.placed rings (same_cores _);
      three = c.args.self.now.three;
      unended = open_retried _ _ c.retry.ensures.rings.count c.retry.ensures.rings.rings c.args.self.now.unended;
      room = subst (λ (t : Table). c.args.self.now.moves ≤ t.room) (sym c.retry.ensures.table) c.args.self.now.room;
    }
