use Rattle.ix_tells.proofs.Stays.{homes-stay, openings-are-home}
use Rattle.ix_tells.proofs.laws.homes_stay.Goals as goal

pub returns : goal.returns
returns row c = record {
  opening = openings-are-home row.G.GroupStack.drained row.G.GroupStack.weight row.G.GroupStack.owners
      c.settles_are_ready.ensures c.buffers_are_held.ensures.settles c.buffers_are_held.ensures.own c.homes_add_up.ensures.settles;
  stay = homes-stay row.G.Unit.counted row.G.Unit.name row.G.Unit.stepped row.G.Unit.advanced row.G.GroupStack.drained row.G.GroupStack.weight row.G.GroupStack.owners
      c.epochs_are_ready.ensures c.epochs_conserve.ensures c.settles_are_ready.ensures c.buffers_are_held.ensures.epochs c.buffers_are_held.ensures.settles c.buffers_are_held.ensures.own
      c.homes_add_up.ensures.epochs c.homes_add_up.ensures.settles c.uses_are_told.ensures.stay;
}
