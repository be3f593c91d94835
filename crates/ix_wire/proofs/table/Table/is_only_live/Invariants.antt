use Rattle.std.proofs.Common.{◌≡◌}
use Rattle.ix_wire.specs.Table.{is_only_live}
use Rattle.ix_wire.proofs.table.Table.is_only_live.Given as goal

abbrev pub invariant-loop-other : goal.invariant-loop-other
invariant-loop-other l = l.only ≡ is_only_live l.self l.core l.other
