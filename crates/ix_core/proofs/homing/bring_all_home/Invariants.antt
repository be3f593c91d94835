use Rattle.std.proofs.Common.{◌≡◌, ◌++◌}
use Rattle.ix_core.specs.Homing.{AllHomed}
use Rattle.ix_core.proofs.homing.bring_all_home.Given as goal

abbrev pub invariant-loop-buf : goal.invariant-loop-buf
invariant-loop-buf g l = record {
  so : AllHomed l.yielded l.initial.cores l.cores;
  whole : l.yielded ++ l.buf-iterator.rest.items ≡ l.fn.bufs.items;
}
