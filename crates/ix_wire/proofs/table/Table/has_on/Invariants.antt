use Rattle.std.proofs.Common.{◌≡◌, ◌+◌, ◌*◌, ◌-◌}
use Rattle.std.specs.List.{list_any}
use Rattle.ix_wire.specs.Table.{groups_from, is_on}
use Rattle.ix_wire.proofs.table.Table.has_on.Given as goal

abbrev pub invariant-loop-k : goal.invariant-loop-k
invariant-loop-k l =
    list_any (is_on l.self l.core) (groups_from (l.place + 128 * l.k) (l.width - l.k)) ≡ list_any (is_on l.self l.core) (groups_from l.place l.width)
