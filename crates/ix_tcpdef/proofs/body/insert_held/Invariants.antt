use Rattle.std.proofs.Common.{◌≡◌, ◌++◌, length}
use Rattle.ix_tcpdef.specs.Body.{held_among}
use Rattle.ix_tcpdef.proofs.body.insert_held.Given as goal

abbrev pub invariant-loop-first : goal.invariant-loop-first
invariant-loop-first l = l.out ++ held_among l.new l.rest ≡ held_among l.new l.fn.held

abbrev pub decreases-loop-first : goal.decreases-loop-first
decreases-loop-first l = length l.rest
