use Rattle.std.proofs.Common.{◌≡◌, ◌++◌, ◌≤◌, map, drop}
use Rattle.std.specs.Prelude.{slice_range}
use Rattle.ix_fits.specs.Read.{cutting_read, cycles_read}
use Rattle.ix_told.specs.Reading.{cycle_of}
use Rattle.ix_told.proofs.cutting.cutting_read.Given as goal

abbrev pub invariant-loop-at : goal.invariant-loop-at
invariant-loop-at l = record {
  within : l.from ≤ l.at;
  cycles : map cycle_of l.cycles.items ++ cycles_read l.conns (slice_range l.entries l.from l.at) (drop l.at l.entries) ≡ cutting_read l.conns l.entries;
}
