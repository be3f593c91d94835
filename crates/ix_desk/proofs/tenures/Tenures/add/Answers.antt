use Rattle.std.proofs.Common.{arith}
use Rattle.ix_desk.proofs.Numbers.{at_most_more}
use Rattle.ix_desk.proofs.tenures.Tenures.add.Goals as goal

pub invariant_of-self-then-tenure-self : goal.invariant_of-self-then-tenure-self
invariant_of-self-then-tenure-self c = rw c.in_ok-push.ensures.items (at_most_more _ _ _ _ c.self.invariant (omega arith) (omega arith))

pub invariant_of-self-else-tenure-self : goal.invariant_of-self-else-tenure-self
invariant_of-self-else-tenure-self c = rw c.in_ok-push.ensures.items (at_most_more _ _ _ _ c.self.invariant (omega arith) (omega arith))
