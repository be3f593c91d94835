use Rattle.ix_carried.proofs.Counts.{cards_stay}
use Rattle.ix_carried.proofs.Fits.{courses_fit}
use Rattle.ix_carried.proofs.laws.courses_fit.Goals as goal

pub returns : goal.returns
returns c = record { stays = cards_stay; fits = courses_fit }
