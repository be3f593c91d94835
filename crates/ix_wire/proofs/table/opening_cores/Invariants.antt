use Rattle.std.proofs.Common.{◌≡◌, vec_len}
use Rattle.ix_wire.specs.Table.{opening_cores}
use Rattle.ix_wire.proofs.table.opening_cores.Given as goal

abbrev pub invariant-loop-group : goal.invariant-loop-group
invariant-loop-group l = record {
  at : l.at.items ≡ opening_cores l.live l.group;
  count : vec_len l.at ≡ l.group;
}
