use Rattle.std.proofs.Common.{◌≡◌, ◌++◌, map, take}
use Rattle.ix_fits.specs.Read.{alone}
use Rattle.ix_told.specs.Reading.{cycle_of}
use Rattle.ix_told.proofs.cycle.push_alone.Given as goal

abbrev pub invariant-loop-entry : goal.invariant-loop-entry
invariant-loop-entry l = map cycle_of l.cycles.items ≡ map cycle_of l.fn.cycles.items ++ map alone (take l.entry-index l.entries)
