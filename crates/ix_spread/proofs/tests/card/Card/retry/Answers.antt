use Rattle.std.proofs.Common.{◌≤◌, ◌∙◌, sym, subst}
use Rattle.ix_reta.specs.Table.{Table}
use Rattle.ix_spread.proofs.StillOpen.{open_retried}
use Rattle.ix_spread.proofs.tests.card.Card.retry.Goals as goal

pub invariant_of-self : goal.invariant_of-self
invariant_of-self c = record {
  three = c.retry.ensures.rings.count ∙ c.args.self.now.three;
  unended = open_retried _ _ c.retry.ensures.rings.count c.retry.ensures.rings.rings c.args.self.now.unended;
  room = subst (λ (t : Table). c.args.self.now.turns ≤ t.room) (sym c.retry.ensures.table) c.args.self.now.room;
}
