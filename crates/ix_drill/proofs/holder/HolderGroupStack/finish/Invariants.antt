use Rattle.std.proofs.Common.{◌≡◌, ◌++◌}
use Rattle.ix_drill.proofs.holder.HolderGroupStack.finish.Given as goal

abbrev pub invariant-loop-buf : goal.invariant-loop-buf
invariant-loop-buf l = record {
  whole : l.bufs.items ++ l.buf-iterator.rest.items ≡ l.initial.bufs.items ++ l.initial.buf-iterator.rest.items;
}
