use Rattle.std.proofs.Common.{◌≡◌, take}
use Rattle.ix_core.specs.Counting.{owned_over}
use Rattle.ix_core.proofs.counting.all_owned.Given as goal

abbrev pub invariant-loop-core : goal.invariant-loop-core
invariant-loop-core g l = l.sum ≡ owned_over g.G.GroupStack.owners l.home.0 (take l.core-index l.cores)
