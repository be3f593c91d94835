use Rattle.std.proofs.Common.{◌≡◌, take}
use Rattle.ix_tcpdef.proofs.copy.copy_all_held.Given as goal

abbrev pub invariant-loop-segment : goal.invariant-loop-segment
invariant-loop-segment l = l.copies ≡ take l.segment-index l.held
