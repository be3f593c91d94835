use Rattle.ix_fits.proofs.SoundLaws.{reports_are_sound}
use Rattle.ix_fits.proofs.laws.reports_are_sound.Goals as goal

pub returns : goal.returns
returns c = reports_are_sound c.records_are_sound.ensures.takers
