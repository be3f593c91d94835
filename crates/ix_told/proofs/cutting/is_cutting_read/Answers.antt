use Rattle.std.proofs.Common.{[]}
use Rattle.std.proofs.lemmas.Bool.Decides.{Decides-at}
use Rattle.ix_told.specs.Reading.{fits_read}
use Rattle.ix_told.proofs.CuttingLaws.{cutting_decided}
use Rattle.ix_told.proofs.cutting.is_cutting_read.Goals as goal

pub returns : goal.returns
returns c =
    Decides-at c.fits_read.result (fits_read c.args.batch c.args.conns.now [] c.args.entries.now) c.fits_read.ensures
    (cutting_decided c.args.batch c.args.conns.now c.args.entries.now)
