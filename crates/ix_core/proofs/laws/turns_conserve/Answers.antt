use Rattle.ix_core.proofs.Conserved.{conserved, groups_kept}
use Rattle.ix_core.proofs.laws.turns_conserve.Goals as goal

pub returns : goal.returns
returns row c = λ env old new len found became. (
  groups_kept row.G.Unit.counted row.G.Unit.name row.G.Unit.stepped row.G.Unit.advanced row.G.GroupStack.drained env row.G.GroupStack.weight
      (λ f x core items y so. row.met.G.GroupStack.steps_weigh f x env core items y so) (λ f x bufs y so. row.met.G.GroupStack.drains_weigh f x bufs y so) old new len (became.ran found),
  conserved row.G.Unit.counted row.G.Unit.name row.G.Unit.stepped row.G.Unit.advanced row.G.GroupStack.drained env row.G.GroupStack.weight
      (λ f x core items y so. row.met.G.GroupStack.steps_weigh f x env core items y so) (λ f x bufs y so. row.met.G.GroupStack.drains_weigh f x bufs y so) old new len (became.ran found),
)
