use Rattle.std.proofs.Common.{◌≡◌, drop}
use Rattle.ix_fits.specs.Cutting.{reach, reach_from}
use Rattle.ix_out.proofs.frames_out.reach.Given as goal

abbrev pub invariant-loop-w : goal.invariant-loop-w
invariant-loop-w l = reach_from l.group.0 l.w l.opened (drop l.w l.done) ≡ reach l.group.0 l.done
