use Rattle.std.proofs.Common.{◌≡◌, ◌++◌}
use Rattle.ix_plainstack.specs.Kept.{buffers_of}
use Rattle.ix_plainstack.proofs.buffers.free_all.Given as goal

abbrev pub invariant-loop-taken : goal.invariant-loop-taken
invariant-loop-taken l = l.freed.items ≡ l.fn.freed.items ++ buffers_of l.yielded
