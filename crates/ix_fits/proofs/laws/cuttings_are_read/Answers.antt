use Rattle.ix_fits.proofs.AloneLaws.{all_are_stepped, cuttings_exist}
use Rattle.ix_fits.proofs.ReadLaws.{read_takes_all}
use Rattle.ix_fits.proofs.laws.cuttings_are_read.Goals as goal

pub returns : goal.returns
returns c = record { read = read_takes_all; stepped = all_are_stepped; exist = cuttings_exist }
