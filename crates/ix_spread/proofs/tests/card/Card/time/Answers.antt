use Rattle.std.proofs.Common.{◌≤◌, ◌∙◌, refl, sym, subst}
use Rattle.ix_reta.specs.Table.{Table}
use Rattle.ix_spread.proofs.StillOpen.{open_after}
use Rattle.ix_spread.proofs.tests.card.Card.time.Goals as goal

pub invariant_of-self : goal.invariant_of-self
invariant_of-self c = record {
  three = c.time.ensures.entry.count ∙ c.has_room.new.self.three;
  unended = open_after _ _ _ _ c.time.ensures.entry (λ b. refl) c.has_room.new.self.unended;
  room = subst (λ (t : Table). c.has_room.new.self.turns ≤ t.room) (sym c.time.ensures.table) c.has_room.new.self.room;
}
