use Rattle.std.proofs.Common.{◌≡◌, ◌≤◌, [], drop}
use Rattle.std.specs.Prelude.{slice_range}
use Rattle.ix_told.specs.Reading.{fits_read}
use Rattle.ix_told.proofs.cutting.fits_read.Given as goal

abbrev pub invariant-loop-at : goal.invariant-loop-at
invariant-loop-at l = record {
  within : l.from ≤ l.at;
  fits : fits_read l.batch l.conns (slice_range l.entries l.from l.at) (drop l.at l.entries) ≡ fits_read l.batch l.conns [] l.entries;
}
