use Rattle.ix_pools.proofs.Pools.{epochs-keep, frames-own, settles-keep, slots-stay}
use Rattle.ix_pools.proofs.laws.pools_stay.Goals as goal

pub returns : goal.returns
returns row c = record {
  epochs = epochs-keep row.G.Unit.counted row.G.Unit.name row.G.Unit.stepped row.G.Unit.advanced row.G.GroupStack.drained;
  settles = settles-keep;
  slots = slots-stay;
  frames = frames-own row.G.Unit.counted row.G.Unit.name row.G.Unit.stepped row.G.Unit.advanced row.G.GroupStack.drained row.G.GroupStack.weight
      c.epochs_are_ready.ensures c.homes_add_up.ensures.epochs c.frames_lie_in_slots.ensures;
}
