use Rattle.std.proofs.Common.{◌≡◌, ◌+◌, ◌*◌, ◌-◌}
use Rattle.std.specs.List.{list_any}
use Rattle.ix_wire.specs.Table.{groups_from, is_tagged}
use Rattle.ix_wire.proofs.table.Table.has_tagged.Given as goal

abbrev pub invariant-loop-k : goal.invariant-loop-k
invariant-loop-k l =
    list_any (is_tagged l.self) (groups_from (l.place + 128 * l.k) (l.width - l.k)) ≡ list_any (is_tagged l.self) (groups_from l.place l.width)
