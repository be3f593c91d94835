use Rattle.std.proofs.Common.{◌∙◌, ℕ, List, ap}
use Rattle.ix_places.specs.Told.{number_in}
use Rattle.ix_places.specs.declared.turn.Turn.{Turn}
use Rattle.ix_places.proofs.KeyLaws.{lookup-turn}
use Rattle.ix_places.proofs.told.FirstNumbers.get.Goals as goal

pub returns : goal.returns
returns c =
    c.copied.ensures ∙ c.get.ensures.value ∙ lookup-turn c.self.inside.numbers.entries c.args.turn.now ∙ ap (λ (es : List (Turn × ℕ)). number_in es c.args.turn.now) c.self.view_is
