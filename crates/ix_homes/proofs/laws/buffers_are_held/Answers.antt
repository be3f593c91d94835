use Rattle.ix_homes.proofs.EpochLaws.{epochs-fill}
use Rattle.ix_homes.proofs.SettleLaws.{held-is-own, settles-hold}
use Rattle.ix_homes.proofs.laws.buffers_are_held.Goals as goal

pub returns : goal.returns
returns row c = record {
  epochs = epochs-fill row.G.Unit.counted row.G.Unit.name row.G.Unit.stepped row.G.Unit.advanced row.G.GroupStack.drained row.G.GroupStack.weight c.epochs_conserve.ensures c.buffers_are_filled.ensures;
  settles = settles-hold row.G.GroupStack.weight c.settles_are_ready.ensures;
  own = held-is-own row.G.GroupStack.weight;
}
