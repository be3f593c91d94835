use Rattle.std.proofs.Common.{ℕ, List, ◌++◌, ap, subst, ◌∙◌}
use Rattle.ix_mbuf.specs.Buffers.{piece_bytes}
use Rattle.ix_appdef.specs.Answers.{kv_answer}
use Rattle.ix_app.specs.Told.{up_after, told_after}
use Rattle.ix_app.specs.Handing.{Answered, sent}
use Rattle.ix_app.specs.HandingLaws.{answers}
use Rattle.ix_apps.specs.Sessions.{Continues, grown_by}
use Rattle.ix_apps.proofs.kv.KvApp.event.Goals as goal

pub returns-in_ok-release-in-Recv-clause-stands : goal.returns-in_ok-release-in-Recv-clause-stands
returns-in_ok-release-in-Recv-clause-stands c = λ up told r p.
    rw c.in-Recv.is
    (subst (λ (bytes : List ℕ). Continues c.answers_to.new.session (told ++ bytes)) c.bytes.ensures (c.in_ok-answer-in-Recv.ensures.continues told p))

pub returns-in_ok-release-in-Recv-clause-answered : goal.returns-in_ok-release-in-Recv-clause-answered
returns-in_ok-release-in-Recv-clause-answered c = λ up told r p.
    rw c.in-Recv.is
    (answers c.in-Recv.part c.in_ok-answer-in-Recv.answer (kv_answer up told) (kv_answer up (told ++ piece_bytes c.in-Recv.part)) c.from.result
    c.args.out.now c.done.new.self c.send.new.self c.release.new.self
    (c.in_ok-answer-in-Recv.ensures.answers told p ∙ ap (λ (bytes : List ℕ). grown_by told bytes) c.bytes.ensures)
    (c.from.ensures ∙ c.len.ensures.bytes) c.done.ensures c.in_ok-send-in-Recv.ensures.ok c.in_ok-release-in-Recv.ensures.ok)
