use Rattle.ix_fits.proofs.ReadFits.{readings-fit}
use Rattle.ix_fits.proofs.readings.readings_fit.Goals as goal

pub returns : goal.returns
returns c = readings-fit c.groups_are_sound.ensures.all_rest c.groups_are_sound.ensures.stays c.groups_are_sound.ensures.runs c.answers_grow.ensures.first
