use Rattle.std.proofs.Common.{◌≡◌, ◌++◌}
use Rattle.ix_epochs.specs.Workers.{crew}
use Rattle.ix_epochs.proofs.crew.packed.Given as goal

abbrev pub invariant-loop-core : goal.invariant-loop-core
invariant-loop-core g l = record {
  done : l.workers.items ≡ crew l.fn.feed l.yielded;
  rest : l.yielded ++ l.core-iterator.rest.items ≡ l.fn.cores.items;
}
