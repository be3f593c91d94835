use Rattle.std.proofs.Common.{◌≤◌, ◌∙◌, ap, length, sym, subst}
use Rattle.ix_reta.specs.Table.{Table}
use Rattle.ix_core.specs.Meeting.{AreInOrder}
use Rattle.ix_drill.specs.Quiet.{ArePlaced}
use Rattle.ix_drill.proofs.Kept.{lent_back}
use Rattle.ix_drill.proofs.tests.drill.Drill.settle.Goals as goal

pub settle_quiet-requires-clause-order : goal.settle_quiet-requires-clause-order
settle_quiet-requires-clause-order c = subst (λ cs. AreInOrder c.args.self.nic cs) (sym c.as_mut_slice.ensures.value) c.args.self.order

pub settle_quiet-requires-clause-placed : goal.settle_quiet-requires-clause-placed
settle_quiet-requires-clause-placed c = subst (λ cs. ArePlaced c.args.self.nic cs) (sym c.as_mut_slice.ensures.value) c.args.self.placed

pub invariant_of-result : goal.invariant_of-result
invariant_of-result c =
    let self = c.args.self in
    let value = c.as_mut_slice.ensures.value in
    let ready = rw c.in-Some.is at c.in_ok-report.ensures in
    let whole = lent_back self.cores.len self.cores.items c.settle_quiet.new.cores (sym c.as_mut_slice.ensures.len ∙ ap length value) (ready.three ∙ sym self.three) in
    record {
      order = subst (λ cs. AreInOrder c.settle_quiet.new.nic cs) (sym whole) ready.order;
      placed = subst (λ cs. ArePlaced c.settle_quiet.new.nic cs) (sym whole) ready.placed;
      three = ap length whole ∙ ready.three;
      unended = ready.unended;
      room = subst (λ (t : Table). self.moves ≤ t.room) (sym ready.table) self.room;
    }
