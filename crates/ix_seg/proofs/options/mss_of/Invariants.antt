use Rattle.std.proofs.Common.{◌≡◌, length}
use Rattle.ix_seg.specs.Options.{mss_of}
use Rattle.ix_seg.proofs.options.mss_of.Given as goal

abbrev pub invariant-loop-rest : goal.invariant-loop-rest
invariant-loop-rest l = mss_of l.rest ≡ mss_of l.options

abbrev pub decreases-loop-rest : goal.decreases-loop-rest
decreases-loop-rest l = length l.rest
