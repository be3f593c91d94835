use Rattle.ix_epochs.proofs.Readiness.{settle_ready}
use Rattle.ix_epochs.proofs.laws.settles_are_ready.Goals as goal

pub returns : goal.returns
returns g c = λ owners report x y old new so did. settle_ready owners report x y old new so did
