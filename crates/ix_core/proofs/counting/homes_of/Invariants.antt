use Rattle.ix_core.specs.Counting.{AreHomes}
use Rattle.ix_core.proofs.counting.homes_of.Given as goal

abbrev pub invariant-loop-place : goal.invariant-loop-place
invariant-loop-place g l = AreHomes g.G.GroupStack.owners l.place l.cores l.rings l.homes.items
