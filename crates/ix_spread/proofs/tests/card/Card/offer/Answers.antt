use Rattle.std.proofs.Common.{◌≤◌, ◌∙◌, sym, subst}
use Rattle.ix_reta.specs.Table.{Table}
use Rattle.ix_spread.proofs.StillOpen.{open_after, frame_ends}
use Rattle.ix_spread.proofs.tests.card.Card.offer.Goals as goal

pub invariant_of-self : goal.invariant_of-self
invariant_of-self c = record {
  three = c.offer.ensures.answer.count ∙ c.args.self.now.three;
  unended = open_after _ _ _ _ c.offer.ensures.entry (frame_ends _ c.offer.result) c.args.self.now.unended;
  room = subst (λ (t : Table). c.args.self.now.turns ≤ t.room) (sym c.offer.ensures.answer.table) c.args.self.now.room;
}
