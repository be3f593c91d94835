use Rattle.ix_appdef.proofs.AnswerLaws.{answers_grow, nothing_first}
use Rattle.ix_appdef.proofs.laws.answers_grow.Goals as goal

pub returns : goal.returns
returns c = record { grow = answers_grow; first = nothing_first }
