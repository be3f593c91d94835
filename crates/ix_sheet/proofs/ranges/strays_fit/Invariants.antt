use Rattle.std.proofs.Common.{◌<◌, ℕ, get_or}
use Rattle.ix_lines.specs.declared.types.StrayLine.{StrayLine}
use Rattle.ix_sheet.specs.Ranges.{FitsStray}
use Rattle.ix_sheet.proofs.ranges.strays_fit.Given as goal

abbrev pub invariant-loop-stray : goal.invariant-loop-stray
invariant-loop-stray l = (i : ℕ) (d : StrayLine) → i < l.stray-index → FitsStray (get_or l.strays i d)
