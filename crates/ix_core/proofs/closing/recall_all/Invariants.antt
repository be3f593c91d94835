use Rattle.std.proofs.Common.{◌≡◌}
use Rattle.ix_core.specs.Closing.{Recalled, port_holds}
use Rattle.ix_core.specs.Homing.{GatheredSome}
use Rattle.ix_core.proofs.closing.recall_all.Given as goal

abbrev pub invariant-loop-core : goal.invariant-loop-core
invariant-loop-core g l = record {
  table : l.nic.table ≡ l.initial.nic.table;
  so : GatheredSome Recalled port_holds l.core-index l.initial.nic.ports l.nic.ports l.initial.bufs.items l.bufs.items;
}
