use Rattle.std.proofs.Common.{◌≡◌, ◌++◌, [], length}
use Rattle.ix_desk.specs.Pieces.{joined}
use Rattle.ix_core.specs.Landing.{home_in, ship_in}
use Rattle.ix_core.proofs.homing.empty_waiting.Given as goal

abbrev pub invariant-loop-message : goal.invariant-loop-message
invariant-loop-message g l = record {
  none : joined ship_in l.waiting.items ≡ [];
  whole : l.bufs.items ++ joined home_in l.waiting.items ≡ l.initial.bufs.items ++ joined home_in l.initial.waiting.items;
}

abbrev pub decreases-loop-message : goal.decreases-loop-message
decreases-loop-message g l = length l.waiting.items
