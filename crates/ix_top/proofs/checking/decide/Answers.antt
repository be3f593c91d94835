use Rattle.std.proofs.Common.{sym, subst, ◌∙◌}
use Rattle.ix_top.specs.declared.status.Status.{Status}
use Rattle.ix_top.specs.Check.{Checks}
use Rattle.ix_top.proofs.Checks.{verdict-checks}
use Rattle.ix_top.proofs.checking.decide.Goals as goal

pub returns-in-Ok-clause-answers : goal.returns-in-Ok-clause-answers
returns-in-Ok-clause-answers c = λ f meaning replies trace.
    subst (λ (s : Status). Checks s f) (sym c.status_of.ensures)
    (verdict-checks c.in-Ok.verdict c.args.files.now.inputs f c.as_slice-replies.result.now c.as_slice-trace.result.now meaning
    (c.as_slice-replies.ensures.value ∙ replies) (c.as_slice-trace.ensures.value ∙ trace) c.in-Ok.ensures.decides c.in-Ok.ensures.finding)
