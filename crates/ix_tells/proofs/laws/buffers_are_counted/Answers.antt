use Rattle.ix_tells.proofs.Counts.{buffers-are-once, settles-count}
use Rattle.ix_tells.proofs.laws.buffers_are_counted.Goals as goal

pub returns : goal.returns
returns row c = record {
  counts = settles-count row.G.GroupStack.drained row.G.GroupStack.weight row.G.GroupStack.owners c.homes_add_up.ensures.homes;
  once = buffers-are-once row.G.GroupStack.drained row.G.GroupStack.weight;
}
