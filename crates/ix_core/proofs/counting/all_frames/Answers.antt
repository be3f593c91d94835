use Rattle.std.proofs.Common.{rules}
use Rattle.ix_core.proofs.Countings.{frames_next}
use Rattle.ix_core.proofs.counting.all_frames.Goals as goal

pub loop-core-preserved : goal.loop-core-preserved
loop-core-preserved g c = frames_next _ _ c.loop-core.core-index _ _ _ _ (search rules) c.core-item.is c.loop-core.invariant c.frames_at-here.ensures c.saturating_add-count.ensures
