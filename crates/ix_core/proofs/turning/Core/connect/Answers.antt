use Rattle.std.proofs.Common.{refl}
use Rattle.ix_core.proofs.Connects.{connect_weighs}
use Rattle.ix_core.proofs.turning.Core.connect.Goals as goal

pub returns-in-Ok-clause-weights : goal.returns-in-Ok-clause-weights
returns-in-Ok-clause-weights g c =
    connect_weighs g.G.GroupStack.connected g.G.GroupStack.weight (λ f x env core cookie flow ret y so. g.met.G.GroupStack.connects_weigh f x env core cookie flow ret y so) _ _ _ _ _ _ _ c.in-Ok.ensures refl
