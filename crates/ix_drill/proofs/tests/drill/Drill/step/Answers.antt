use Rattle.std.proofs.Common.{◌<◌, ◌∙◌, arith, length}
use Rattle.std.proofs.Math.ListN.{length-set}
use Rattle.ix_drill.proofs.Kept.{placed_still, same_rings, stepped}
use Rattle.ix_drill.proofs.tests.drill.Drill.step.Goals as goal

pub invariant_of-self : goal.invariant_of-self
invariant_of-self c =
    let self = c.args.self.now in
    let lt : c.from.result < length self.cores.items = omega (arith, self.three, c.from.ensures, c.requires) in
    let same = stepped c.from.result self.cores.items c.index_mut-core.result.now c.turn.new.self lt c.index_mut-core.ensures.value c.turn.ensures.own.ends in
    record {
      order = c.order_stays.ensures self.nic self.nic self.cores.items _ self.order (same_rings self.nic) same;
      placed = placed_still self.nic self.nic self.cores.items _ self.placed (same_rings self.nic) same;
      three = length-set self.cores.items c.from.result c.turn.new.self ∙ self.three;
      unended = self.unended;
      room = self.room;
    }
