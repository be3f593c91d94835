use Rattle.std.proofs.Common.{◌≡◌, ◌++◌, All, drop}
use Rattle.ix_fits.specs.Cutting.{frames_due}
use Rattle.ix_told.specs.Short.{IsShortTaken}
use Rattle.ix_told.proofs.cycle.frames_due.Given as goal

abbrev pub invariant-loop-entry : goal.invariant-loop-entry
invariant-loop-entry l = record {
  frames : l.frames ++ frames_due (drop l.entry-index l.entries) ≡ frames_due l.entries;
  short : All IsShortTaken l.frames;
}
