use Rattle.std.proofs.Common.{◌≤◌, ◌∙◌, ap, sym, subst}
use Rattle.ix_reta.specs.Table.{Table}
use Rattle.ix_nic.specs.Ports.{PortView}
use Rattle.ix_spread.proofs.StillOpen.{open_changed, posted_ends}
use Rattle.ix_spread.proofs.tests.card.Card.take_back.Goals as goal

pub invariant_of-self : goal.invariant_of-self
invariant_of-self c = record {
  three = c.take_kept.ensures.others.count ∙ c.args.self.now.three;
  unended = open_changed _ _ _ c.take_kept.ensures.others (λ d. ap (λ (p : PortView). p.ended) (c.take_kept.ensures.unkept d)) c.args.self.now.unended;
  room = subst (λ (t : Table). c.args.self.now.turns ≤ t.room) (sym c.take_kept.ensures.others.table) c.args.self.now.room;
}

pub invariant_of-self-in-None : goal.invariant_of-self-in-None
invariant_of-self-in-None c = record {
  three = c.take_posted.ensures.others.count ∙ c.take_kept.ensures.others.count ∙ c.args.self.now.three;
  unended = open_changed _ _ _ c.take_posted.ensures.others (λ d. posted_ends c.take_posted.result _ _ (c.take_posted.ensures.taken d))
      (open_changed _ _ _ c.take_kept.ensures.others (λ d. ap (λ (p : PortView). p.ended) (c.take_kept.ensures.unkept d)) c.args.self.now.unended);
  room = subst (λ (t : Table). c.args.self.now.turns ≤ t.room) (sym (c.take_posted.ensures.others.table ∙ c.take_kept.ensures.others.table)) c.args.self.now.room;
}
