use Rattle.ix_tells.proofs.Wholes.{settles-are-whole}
use Rattle.ix_tells.proofs.laws.settles_are_told.Goals as goal

pub returns : goal.returns
returns row c = record {
  whole = settles-are-whole row.G.GroupStack.drained row.G.GroupStack.weight row.G.GroupStack.owners c.homes_add_up.ensures.homes;
}
