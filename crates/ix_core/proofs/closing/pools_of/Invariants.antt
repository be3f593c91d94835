use Rattle.ix_core.specs.Closing.{PoolsAre}
use Rattle.ix_core.proofs.closing.pools_of.Given as goal

abbrev pub invariant-loop-core : goal.invariant-loop-core
invariant-loop-core g l = PoolsAre l.core-index l.pools.items l.cores
