use Rattle.std.proofs.Common.{◌≡◌, ◌++◌, ◌+◌, ◌<◌, ◌≤◌, ◌^◌, length}
use Rattle.ix_tcpdef.specs.Flush.{data_frames}
use Rattle.ix_tcpdef.proofs.flush.push_data.Given as goal

abbrev pub invariant-loop-rest : goal.invariant-loop-rest
invariant-loop-rest l = record {
  frames : l.outputs ++ data_frames l.cfg l.w (length l.rest) l.at l.rest ≡ l.fn.outputs ++ data_frames l.fn.cfg l.fn.w (length l.fn.bytes) l.fn.at l.fn.bytes;
  first : 1 ≤ l.at;
  at : l.at + length l.rest < 2 ^ 64;
}

abbrev pub decreases-loop-rest : goal.decreases-loop-rest
decreases-loop-rest l = length l.rest
