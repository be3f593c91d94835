use Rattle.std.proofs.Common.{refl}
use Rattle.ix_core.proofs.Closings.{groups_more, groups_none, waits_later}
use Rattle.ix_core.proofs.closing.finish_all.Goals as goal

pub loop-g-init : goal.loop-g-init
loop-g-init g c = groups_none _ _ _ _

pub finish_group-requires : goal.finish_group-requires
finish_group-requires g c = waits_later _ c.loop-g.g _ _ _ _ _ _ (c.requires c.loop-g.g) c.loop-g.invariant

pub loop-g-preserved : goal.loop-g-preserved
loop-g-preserved g c = groups_more _ c.loop-g.g _ _ _ _ _ _ _ _ _ _ refl c.loop-g.invariant c.in_ok-finish_group.ensures
