use Rattle.std.proofs.Common.{◌≡◌, vec_len}
use Rattle.ix_wire.specs.Table.{no_tags}
use Rattle.ix_wire.proofs.table.no_tags.Given as goal

abbrev pub invariant-loop-group : goal.invariant-loop-group
invariant-loop-group l = record {
  tags : l.tags.items ≡ no_tags l._group;
  count : vec_len l.tags ≡ l._group;
}
