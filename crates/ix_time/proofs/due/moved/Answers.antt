use Rattle.std.proofs.Common.{arith}
use Rattle.std.proofs.lemmas.Grind.{common_steps}
use Rattle.ix_time.proofs.WheelLemmas.{nothing-there}
use Rattle.ix_time.proofs.due.moved.Goals as goal

pub loop-key-init : goal.loop-key-init
loop-key-init c = record {
  places = λ p. rw c.in_ok-places.ensures (nothing-there 1408 p);
  len = grind (arith, common_steps, c.in_ok-places.ensures);
}
