use Rattle.ix_printed.proofs.Shorts.{epochs-are-short}
use Rattle.ix_printed.proofs.laws.epochs_are_short.Goals as goal

pub returns : goal.returns
returns start = epochs-are-short
