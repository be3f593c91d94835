use Rattle.ix_nic.proofs.Entries.{carried_out}
use Rattle.ix_nic.proofs.laws.entries_are_carried_out.Goals as goal

pub returns : goal.returns
returns c = carried_out
