use Rattle.std.proofs.Common.{◌≡◌, ◌++◌}
use Rattle.ix_core.specs.Order.{AreOpenedAs}
use Rattle.ix_drill.proofs.tests.opening.open_cores.Given as goal

abbrev pub invariant-loop-end : goal.invariant-loop-end
invariant-loop-end l = record {
  so : AreOpenedAs l.yielded l.cores.items;
  whole : l.yielded ++ l.end-iterator.rest.items ≡ l.fn.ends.items;
}
