use Rattle.std.proofs.Common.{sym, ◌∙◌}
use Rattle.std.proofs.lemmas.Result.{IfOk-weaker}
use Rattle.ix_conf.specs.Settings.{settings_of}
use Rattle.ix_playdef.proofs.AnswerLaws.{answers-known}
use Rattle.ix_playdef.proofs.connects.connect_answers.Goals as goal

pub returns-then-is_push-clause-answers : goal.returns-then-is_push-clause-answers
returns-then-is_push-clause-answers c = λ frames.
    IfOk-weaker c.answers_to.result _ _ (λ answers are.
    answers-known (settings_of c.args.conf.now) frames c.in_ok-neighbours.neighbours c.as_slice.result.now answers.items c.args.conf.now.peers_count (sym c.is_push.ensures ∙ c.if-is_push.true) c.in_ok-neighbours.ensures c.as_slice.ensures are)
    c.answers_to.ensures
