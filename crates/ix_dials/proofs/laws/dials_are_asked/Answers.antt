use Rattle.ix_dials.proofs.Asked.{dials_are_asked, stand_at_first}
use Rattle.ix_dials.proofs.laws.dials_are_asked.Goals as goal

pub returns : goal.returns
returns c = record { first = stand_at_first c.stacks_stand.ensures.first; asked = dials_are_asked c.stacks_stand.ensures.connects }
