use Rattle.std.proofs.Common.{◌≡◌, take}
use Rattle.ix_told.proofs.running.same_frames.Given as goal

abbrev pub invariant-loop-taken : goal.invariant-loop-taken
invariant-loop-taken l = l.copied ≡ take l.taken-index l.frames
