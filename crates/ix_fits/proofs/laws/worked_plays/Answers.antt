use Rattle.ix_fits.proofs.Worked.{worked_plays}
use Rattle.ix_fits.proofs.laws.worked_plays.Goals as goal

pub returns : goal.returns
returns c = worked_plays
