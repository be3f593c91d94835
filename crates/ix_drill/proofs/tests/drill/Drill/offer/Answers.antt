use Rattle.std.proofs.Common.{◌≤◌, sym, subst}
use Rattle.ix_reta.specs.Table.{Table}
use Rattle.ix_drill.proofs.Kept.{frame_ends, offered_same, open_after, placed_still, same_cores}
use Rattle.ix_drill.proofs.tests.drill.Drill.offer.Goals as goal

pub invariant_of-self : goal.invariant_of-self
invariant_of-self c =
    let rings = offered_same _ _ _ _ _ c.offer.ensures.answer in
    record {
      order = c.order_stays.ensures _ _ _ _ c.args.self.now.order rings (same_cores _);
      placed = placed_still c.args.self.now.nic c.offer.new.self _ _ c.args.self.now.placed rings (same_cores _);
      three = c.args.self.now.three;
      unended = open_after _ _ _ _ c.offer.ensures.entry (frame_ends _ _) c.args.self.now.unended;
      room = subst (λ (t : Table). c.args.self.now.moves ≤ t.room) (sym c.offer.ensures.answer.table) c.args.self.now.room;
    }
