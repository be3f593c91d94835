use Rattle.std.proofs.Common.{ap, sym, ◌∙◌, Bool}
use Rattle.std.specs.Prelude.{ℕ, List, Option, Some, is_some, if◌then◌else◌}
use Rattle.std.specs.Map.{lookup}
use Rattle.std.specs.Ordering.{is_eq}
use Rattle.ix_base.specs.declared.id.Flow.{Flow}
use Rattle.ix_groupdef.specs.Flow.{same_flow}
use Rattle.ix_groupdef.specs.Setting.{number_in}
use Rattle.ix_groupdef.proofs.NumberLaws.{flow_cmp, is_eq-flow_cmp, lookup-flow_cmp, kept-there, kept-new}
use Rattle.ix_groupdef.proofs.numbers.FlowNumbers.keep.Goals as goal

pub returns-then-is_some : goal.returns-then-is_some
returns-then-is_some c = λ q. kept-there c.args.self.now c.args.flow c.args.number q (ap (λ (o : Option ℕ). is_some o) (sym c.get.ensures) ∙ sym c.if-is_some.ensures)

pub returns : goal.returns
returns c = λ q.
    kept-new c.args.self.now c.insert.new.self.entries c.args.flow c.args.number q (ap (λ (o : Option ℕ). is_some o) (sym c.get.ensures) ∙ sym c.if-is_some.ensures)
    (sym (lookup-flow_cmp c.insert.new.self.entries q)
    ∙ c.in_ok-insert.ensures.updates.0 q
    ∙ ap (λ (b : Bool). if b then Some c.args.number else lookup (λ k. is_eq (flow_cmp q k)) c.self.inside.numbers.entries) (is_eq-flow_cmp c.args.flow q)
    ∙ ap (λ (o : Option ℕ). if same_flow c.args.flow q then Some c.args.number else o) (lookup-flow_cmp c.self.inside.numbers.entries q ∙ ap (λ (es : List (Flow × ℕ)). number_in es q) c.self.view_is))
