use Rattle.std.proofs.Common.{ℕ, ◌<◌}
use Rattle.ix_fits.specs.Cutting.{IsCutting}
use Rattle.ix_fits.specs.Fits.{dues_of}
use Rattle.ix_decide.specs.Points.{cycles_in, frames_in, settings_in, sheet_in}
use Rattle.ix_decide.proofs.groups.are_cut.Given as goal

abbrev pub invariant-loop-group : goal.invariant-loop-group
invariant-loop-group l =
    (g : ℕ) → g < l.group → IsCutting (settings_in l.play).batch (dues_of (settings_in l.play) (frames_in l.play) (sheet_in l.play) g) (cycles_in l.play g)
