use Rattle.std.proofs.Common.{◌≡◌, ◌++◌}
use Rattle.ix_out.specs.Out.{all_out, groups_from, groups_out}
use Rattle.ix_decide.specs.Points.{played}
use Rattle.ix_decide.proofs.owners.all_out.Given as goal

abbrev pub invariant-loop-group : goal.invariant-loop-group
invariant-loop-group l = l.outs.items ++ groups_out (played l.play) l.done (groups_from l.group) ≡ all_out (played l.play) l.done
