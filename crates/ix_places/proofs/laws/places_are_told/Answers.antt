use Rattle.ix_places.proofs.FitLaws.{places-are_told}
use Rattle.ix_places.proofs.laws.places_are_told.Goals as goal

pub returns : goal.returns
returns c = places-are_told
