use Rattle.std.proofs.Common.{◌≡◌, take}
use Rattle.ix_nic.specs.Ports.{capped}
use Rattle.ix_core.specs.Counting.{frames_over}
use Rattle.ix_core.proofs.counting.all_frames.Given as goal

abbrev pub invariant-loop-core : goal.invariant-loop-core
invariant-loop-core g l = l.count ≡ capped (frames_over l.home.0 (take l.core-index l.cores))
