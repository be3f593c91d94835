use Rattle.std.proofs.Common.{◌≡◌, ◌<◌, ℕ, length, get_or}
use Rattle.ix_fits.specs.Journals.{IsStrayLine}
use Rattle.ix_lines.specs.declared.types.StrayLine.{StrayLine}
use Rattle.ix_decide.proofs.lines.are_stray_lines.Given as goal
use Rattle.ix_groupdef.specs.declared.types.Stray.{Stray}

abbrev pub invariant-loop-i : goal.invariant-loop-i
invariant-loop-i l = record {
  long : length l.strays ≡ length l.lines;
  each : (k : ℕ) (d : Stray) (e : StrayLine) → k < l.i → IsStrayLine (get_or l.strays k d) (get_or l.lines k e);
}
