use Rattle.std.proofs.Common.{◌≡◌, ◌≤◌, ◌∙◌, ap, length, sym, subst}
use Rattle.ix_reta.specs.Table.{Table}
use Rattle.ix_core.specs.Meeting.{AreInOrder}
use Rattle.ix_drill.specs.Quiet.{ArePlaced}
use Rattle.ix_drill.proofs.Kept.{lent_back, open_learned, placed_learned}
use Rattle.ix_drill.proofs.tests.drill.Drill.meet.Goals as goal

pub invariant_of-self : goal.invariant_of-self
invariant_of-self c =
    let self = c.args.self.now in
    let value = c.as_mut_slice.ensures.value in
    let count : length c.meet_all.new.cores ≡ length self.cores.items = c.meet_all.ensures.cores.count ∙ ap length value in
    let whole = lent_back self.cores.len self.cores.items c.meet_all.new.cores (sym c.as_mut_slice.ensures.len ∙ ap length value) count in
    let placed = placed_learned self.nic c.meet_all.new.nic c.as_mut_slice.result.now c.meet_all.new.cores (subst (λ cs. ArePlaced self.nic cs) (sym value) self.placed) c.meet_all.ensures.card c.meet_all.ensures.cores in
    record {
      order = subst (λ cs. AreInOrder c.meet_all.new.nic cs) (sym whole) c.meet_all.ensures.order;
      placed = subst (λ cs. ArePlaced c.meet_all.new.nic cs) (sym whole) placed;
      three = ap length whole ∙ count ∙ self.three;
      unended = open_learned _ _ c.meet_all.ensures.card self.unended;
      room = subst (λ (t : Table). self.moves ≤ t.room) (sym c.meet_all.ensures.card.table) self.room;
    }
