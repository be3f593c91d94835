use Rattle.std.proofs.Common.{◌≡◌}
use Rattle.ix_wire.specs.Table.{has_tagged_on}
use Rattle.ix_wire.proofs.table.Table.has_tagged_on.Given as goal

abbrev pub invariant-loop-group : goal.invariant-loop-group
invariant-loop-group l = l.found ≡ has_tagged_on l.self l.core l.group
