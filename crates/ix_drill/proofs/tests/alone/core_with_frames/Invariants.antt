use Rattle.std.proofs.Common.{◌≡◌}
use Rattle.ix_drill.proofs.tests.alone.core_with_frames.Given as goal

abbrev pub invariant-loop-w : goal.invariant-loop-w
invariant-loop-w l = l.pool.home ≡ l.initial.pool.home
