use Rattle.std.proofs.Common.{◌≡◌, ◌∙◌, ap, length, sym, subst}
use Rattle.ix_core.specs.Meeting.{AreInOrder}
use Rattle.ix_drill.specs.Quiet.{ArePlaced}
use Rattle.ix_drill.proofs.Kept.{lent_back, placed_still, same_rings}
use Rattle.ix_drill.proofs.tests.drill.Drill.epoch.Goals as goal

pub invariant_of-self : goal.invariant_of-self
invariant_of-self g c =
    let self = c.args.self.now in
    let value = c.as_mut_slice.ensures.value in
    let count : length c.run.new.cores ≡ length self.cores.items = c.run.ensures.count ∙ ap length value in
    let whole = lent_back self.cores.len self.cores.items c.run.new.cores (sym c.as_mut_slice.ensures.len ∙ ap length value) count in
    let order = c.order_stays.ensures self.nic self.nic c.as_mut_slice.result.now c.run.new.cores (subst (λ cs. AreInOrder self.nic cs) (sym value) self.order) (same_rings self.nic) c.run.ensures in
    let placed = placed_still self.nic self.nic c.as_mut_slice.result.now c.run.new.cores (subst (λ cs. ArePlaced self.nic cs) (sym value) self.placed) (same_rings self.nic) c.run.ensures in
    record {
      order = subst (λ cs. AreInOrder self.nic cs) (sym whole) order;
      placed = subst (λ cs. ArePlaced self.nic cs) (sym whole) placed;
      three = ap length whole ∙ count ∙ self.three;
      unended = self.unended;
      room = self.room;
    }
