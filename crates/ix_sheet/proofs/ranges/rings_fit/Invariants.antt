use Rattle.std.proofs.Common.{◌<◌, ℕ, get_or}
use Rattle.ix_lines.specs.declared.types.RingLine.{RingLine}
use Rattle.ix_sheet.specs.Ranges.{FitsRing}
use Rattle.ix_sheet.proofs.ranges.rings_fit.Given as goal

abbrev pub invariant-loop-ring : goal.invariant-loop-ring
invariant-loop-ring l = (i : ℕ) (d : RingLine) → i < l.ring-index → FitsRing (get_or l.rings i d)
