use Rattle.std.proofs.Common.{◌≡◌, ◌++◌, drop, map}
use Rattle.ix_plainstack.specs.Stack.{step_pair, steps_of}
use Rattle.ix_plainstack.proofs.stack.note_all.Given as goal

abbrev pub invariant-loop-item : goal.invariant-loop-item
invariant-loop-item l = map step_pair l.stepped.items ++ steps_of l.core.0 (drop l.item-index l.items) ≡ map step_pair l.fn.stepped.items ++ steps_of l.core.0 l.items
