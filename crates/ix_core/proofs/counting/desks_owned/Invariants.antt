use Rattle.std.proofs.Common.{◌≡◌, take}
use Rattle.ix_core.specs.Counting.{owned_of}
use Rattle.ix_core.proofs.counting.desks_owned.Given as goal

abbrev pub invariant-loop-g : goal.invariant-loop-g
invariant-loop-g g l = l.sum ≡ owned_of g.G.GroupStack.owners l.home.0 (take l.g l.desks.groups)
