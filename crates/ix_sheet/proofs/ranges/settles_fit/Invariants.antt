use Rattle.std.proofs.Common.{take}
use Rattle.std.specs.Prelude.{All}
use Rattle.ix_sheet.specs.Ranges.{FitsSettle}
use Rattle.ix_sheet.proofs.ranges.settles_fit.Given as goal

abbrev pub invariant-loop-settle : goal.invariant-loop-settle
invariant-loop-settle l = All FitsSettle (take l.settle-index l.settles)
