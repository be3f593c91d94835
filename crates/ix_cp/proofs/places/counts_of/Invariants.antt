use Rattle.std.proofs.Common.{take}
use Rattle.ix_cp.specs.Plan.{Counts}
use Rattle.ix_cp.proofs.places.counts_of.Given as goal

abbrev pub invariant-loop-core : goal.invariant-loop-core
invariant-loop-core l = Counts (take l.core-index l.at) l.counts
