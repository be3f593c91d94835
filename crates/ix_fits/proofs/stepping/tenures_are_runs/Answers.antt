use Rattle.ix_fits.proofs.SteppingLaws.{tenures_are_runs}
use Rattle.ix_fits.proofs.stepping.tenures_are_runs.Goals as goal

pub returns : goal.returns
returns c = tenures_are_runs
