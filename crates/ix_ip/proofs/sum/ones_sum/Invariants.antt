use Rattle.std.proofs.Common.{◌≡◌, ◌+◌, ◌≤◌, length}
use Rattle.ix_ip.specs.Sum.{carried, word_sum}
use Rattle.ix_ip.proofs.sum.ones_sum.Given as goal

abbrev pub invariant-loop-rest : goal.invariant-loop-rest
invariant-loop-rest l = (l.sum ≤ 65535) × (carried (l.sum + word_sum l.rest) ≡ carried (l.start + word_sum l.bytes))

abbrev pub decreases-loop-rest : goal.decreases-loop-rest
decreases-loop-rest l = length l.rest
