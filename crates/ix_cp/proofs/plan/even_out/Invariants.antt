use Rattle.std.proofs.Common.{◌≡◌, ◌++◌, length}
use Rattle.ix_cp.specs.Plan.{evening_moves}
use Rattle.ix_cp.proofs.plan.even_out.Given as goal

abbrev pub invariant-loop-left : goal.invariant-loop-left
invariant-loop-left l = l.moves.items ++ evening_moves l.live l.left l.places ≡ evening_moves l.live (length l.at) l.at

abbrev pub decreases-loop-left : goal.decreases-loop-left
decreases-loop-left l = l.left
