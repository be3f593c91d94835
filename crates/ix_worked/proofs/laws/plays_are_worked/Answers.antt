use Rattle.ix_worked.proofs.Worked.{plays-are-worked}
use Rattle.ix_worked.proofs.laws.plays_are_worked.Goals as goal

pub returns : goal.returns
returns c = plays-are-worked c.plays_are_cut.ensures.cut c.plays_are_cut.ensures.leave c.settles_tell_owners.ensures.settles
