use Rattle.ix_fits.proofs.OneCoreLaws.{given_by_the_wire, one_core_plays}
use Rattle.ix_fits.proofs.laws.one_core_plays.Goals as goal

pub returns : goal.returns
returns c = record { given = given_by_the_wire; plays = one_core_plays }
