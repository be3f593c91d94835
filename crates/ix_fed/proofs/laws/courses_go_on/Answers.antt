use Rattle.ix_fed.proofs.Fed.{courses_go_on, epochs_end_in_settles}
use Rattle.ix_fed.proofs.laws.courses_go_on.Goals as goal

pub returns : goal.returns
returns c = record { goes_on = courses_go_on; ends = epochs_end_in_settles }
