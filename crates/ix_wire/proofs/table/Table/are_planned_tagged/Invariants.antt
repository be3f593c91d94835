use Rattle.std.proofs.Common.{◌≡◌, drop}
use Rattle.ix_wire.specs.Table.{are_planned_tagged}
use Rattle.ix_wire.proofs.table.Table.are_planned_tagged.Given as goal

abbrev pub invariant-loop-one : goal.invariant-loop-one
invariant-loop-one l = are_planned_tagged l.self l.width (drop l.one-index l.plan) ≡ are_planned_tagged l.self l.width l.plan
