use Rattle.std.proofs.Common.{arith}
use Rattle.ix_wire.proofs.Onward.{onward}
use Rattle.ix_wire.proofs.TableLaws.{group_steps}
use Rattle.ix_wire.proofs.progress.Progress.shift_groups.Goals as goal

pub loop-k-preserved : goal.loop-k-preserved
loop-k-preserved c = record {
  is = grind (arith, group_steps);
  onward = onward _ _ _ c.loop-k.invariant.onward c.in_ok-shift_group.ensures.onward;
}
