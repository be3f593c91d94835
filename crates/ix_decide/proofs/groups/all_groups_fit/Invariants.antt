use Rattle.std.proofs.Common.{ℕ, ◌<◌}
use Rattle.ix_fits.specs.Fits.{GroupFits}
use Rattle.ix_decide.specs.Points.{cycles_in, frames_in, settings_in, sheet_in}
use Rattle.ix_decide.proofs.groups.all_groups_fit.Given as goal

abbrev pub invariant-loop-group : goal.invariant-loop-group
invariant-loop-group l = (g : ℕ) → g < l.group → GroupFits (settings_in l.play) (frames_in l.play) (sheet_in l.play) (cycles_in l.play) g
