use Rattle.std.proofs.Common.{◌≡◌, ◌++◌}
use Rattle.ix_engine.specs.Steps.{records_of}
use Rattle.ix_engine.proofs.closing.records_of.Given as goal

abbrev pub invariant-loop-group : goal.invariant-loop-group
invariant-loop-group l = record {
  split : l.yielded ++ l._group-iterator.rest.items ≡ l.fn.groups.items;
  records : l.records.items ≡ records_of l.env l.yielded;
}
