use Rattle.std.proofs.Common.{◌≡◌, ◌++◌, drop}
use Rattle.ix_out.specs.Out.{held_out}
use Rattle.ix_out.proofs.frames_out.push_held.Given as goal

abbrev pub invariant-loop-segment : goal.invariant-loop-segment
invariant-loop-segment l = l.outs.items ++ held_out (drop l.segment-index l.held) ≡ l.fn.outs.items ++ held_out l.held
