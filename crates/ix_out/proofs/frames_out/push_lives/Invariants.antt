use Rattle.std.proofs.Common.{◌≡◌, ◌++◌, drop}
use Rattle.ix_out.specs.Out.{lives_out}
use Rattle.ix_out.proofs.frames_out.push_lives.Given as goal

abbrev pub invariant-loop-life : goal.invariant-loop-life
invariant-loop-life l = l.outs.items ++ lives_out l.whole (drop l.life-index l.lives) ≡ l.fn.outs.items ++ lives_out l.whole l.lives
