use Rattle.std.proofs.Common.{◌≡◌, ◌++◌, drop, map, take}
use Rattle.ix_fits.specs.Owners.{below}
use Rattle.ix_told.specs.Reading.{cycle_of}
use Rattle.ix_decide.proofs.owners.below.Given as goal

abbrev pub invariant-loop-i : goal.invariant-loop-i
invariant-loop-i l = map cycle_of (take l.i l.cycles) ++ below l.reached (map cycle_of (drop l.i l.cycles)) ≡ below l.reached (map cycle_of l.cycles)
