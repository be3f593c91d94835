use Rattle.ix_playdef.proofs.Lists.{nothing-given}
use Rattle.ix_playdef.proofs.wire.give.Goals as goal

pub returns-in-None : goal.returns-in-None
returns-in-None c = nothing-given _ _ _ _ _ _ c.in-Frame.is c.in-None.ensures.lookup.3
