use Rattle.std.proofs.Common.{◌∙◌, ℕ, List, ap, sym}
use Rattle.std.specs.Prelude.{if◌then◌else◌, Option, Some}
use Rattle.std.specs.Map.{lookup}
use Rattle.std.specs.Ordering.{is_eq}
use Rattle.std.specs.declared.cmp.Ordering.{Ordering}
use Rattle.ix_places.specs.Told.{number_in, same_turn}
use Rattle.ix_places.specs.contracts.turn.TurnOrd.TheImpl as turn_ord
use Rattle.ix_places.specs.declared.turn.Turn.{Turn}
use Rattle.ix_places.proofs.KeyLaws.{cmp-same, kept-new, lookup-turn}
use Rattle.ix_places.proofs.told.FirstNumbers.first.Goals as goal

pub returns-clause-kept : goal.returns-clause-kept
returns-clause-kept c = λ other.
    kept-new (number_in c.args.self.now) (number_in c.insert.new.self.entries) c.args.turn c.args.number (sym c.get.ensures ∙ c.in_default.is) other
    (sym (lookup-turn c.insert.new.self.entries other)
    ∙ c.in_ok-insert.ensures.updates.0 other
    ∙ ap (λ (o : Ordering). if is_eq o then Some c.args.number else lookup (λ k. is_eq (turn_ord.ghosts.cmp other k)) c.self.inside.numbers.entries) (cmp-same c.args.turn other)
    ∙ ap (λ (o : Option ℕ). if same_turn c.args.turn other then Some c.args.number else o)
    (lookup-turn c.self.inside.numbers.entries other ∙ ap (λ (es : List (Turn × ℕ)). number_in es other) c.self.view_is))
