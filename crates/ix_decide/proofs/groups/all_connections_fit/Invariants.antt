use Rattle.std.proofs.Common.{ℕ, ◌<◌}
use Rattle.ix_fits.specs.Fits.{left_by}
use Rattle.ix_fits.specs.Journals.{AreConnLines, conns_of}
use Rattle.ix_decide.specs.Points.{cycles_in, frames_in, settings_in, sheet_in}
use Rattle.ix_decide.proofs.groups.all_connections_fit.Given as goal

abbrev pub invariant-loop-group : goal.invariant-loop-group
invariant-loop-group l = (g : ℕ) → g < l.group → AreConnLines (left_by (settings_in l.play) (frames_in l.play) (cycles_in l.play) g).conns (conns_of g (sheet_in l.play).conns)
