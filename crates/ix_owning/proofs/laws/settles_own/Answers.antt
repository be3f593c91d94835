use Rattle.ix_owning.proofs.Owning.{owners-told}
use Rattle.ix_owning.proofs.laws.settles_own.Goals as goal

pub returns : goal.returns
returns c = owners-told c.buffers_are_counted.ensures.counts c.buffers_are_counted.ensures.once c.settles_tell_owners.ensures.sums
