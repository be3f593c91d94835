use Rattle.ix_homes.proofs.HomeLaws.{homes-add-up}
use Rattle.ix_homes.proofs.OwnLaws.{epochs-keep-own, settles-keep-own}
use Rattle.ix_homes.proofs.laws.homes_add_up.Goals as goal

pub returns : goal.returns
returns row c = record {
  epochs = epochs-keep-own row.G.Unit.counted row.G.Unit.name row.G.Unit.stepped row.G.Unit.advanced row.G.GroupStack.drained c.buffers_are_filled.ensures;
  settles = settles-keep-own;
  homes = homes-add-up row.G.GroupStack.drained row.G.GroupStack.weight row.G.GroupStack.owners (λ x bufs y home so. row.met.G.GroupStack.owners_weigh x bufs y home so);
}
