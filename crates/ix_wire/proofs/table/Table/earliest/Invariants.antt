use Rattle.std.proofs.Common.{◌≡◌, None, drop}
use Rattle.std.specs.Prelude.{fold}
use Rattle.ix_wire.specs.Table.{earlier}
use Rattle.ix_wire.proofs.table.Table.earliest.Given as goal

abbrev pub invariant-loop-tag : goal.invariant-loop-tag
invariant-loop-tag l = fold earlier l.first (drop l.tag-index l.tag-items) ≡ fold earlier None l.tag-items
