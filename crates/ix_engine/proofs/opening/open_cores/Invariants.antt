use Rattle.std.proofs.Common.{◌≡◌, ◌++◌}
use Rattle.ix_conf.specs.Settings.{settings_of}
use Rattle.ix_engine.specs.Openings.{CoresAreOpen}
use Rattle.ix_engine.proofs.opening.open_cores.Given as goal

abbrev pub invariant-loop-core_ends : goal.invariant-loop-core_ends
invariant-loop-core_ends l = record {
  split : l.yielded ++ l.core_ends-iterator.rest.items ≡ l.fn.ends.items;
  cores : CoresAreOpen (settings_of l.conf) l.table l.yielded l.cores.items;
}
