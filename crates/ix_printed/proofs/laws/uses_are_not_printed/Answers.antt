use Rattle.ix_printed.proofs.Unprinted.{uses-are-not-printed}
use Rattle.ix_printed.proofs.laws.uses_are_not_printed.Goals as goal

pub returns : goal.returns
returns c = uses-are-not-printed c.epochs_are_ready.ensures c.buffers_are_held.ensures.epochs c.buffers_are_held.ensures.settles c.uses_are_told.ensures.uses c.settles_tell_owners.ensures.sums
