use Rattle.std.proofs.Common.{◌<◌, ℕ, get_or}
use Rattle.ix_lines.specs.declared.types.HomeLine.{HomeLine}
use Rattle.ix_sheet.specs.Ranges.{FitsHome}
use Rattle.ix_sheet.proofs.ranges.homes_fit.Given as goal

abbrev pub invariant-loop-home : goal.invariant-loop-home
invariant-loop-home l = (i : ℕ) (d : HomeLine) → i < l.home-index → FitsHome (get_or l.homes i d)
