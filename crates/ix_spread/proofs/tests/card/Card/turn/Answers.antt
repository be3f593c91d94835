use Rattle.std.proofs.Common.{◌∙◌, refl, ap, arith}
use Rattle.ix_reta.specs.Table.{Table}
use Rattle.ix_spread.proofs.StillOpen.{open_after}
use Rattle.ix_spread.proofs.tests.card.Card.turn.Goals as goal

pub invariant_of-self : goal.invariant_of-self
invariant_of-self c = record {
  three = (c.turn.ensures.entry 0).count ∙ c.has_room.new.self.three;
  unended = open_after _ _ _ _ (c.turn.ensures.entry 0) (λ b. refl) c.has_room.new.self.unended;
  room = let left = ap (λ (t : Table). t.room) c.turn.ensures.table in omega (arith, left, c.has_room.new.self.room);
}
