use Rattle.std.proofs.Common.{sym, ◌∙◌}
use Rattle.ix_app.specs.Told.{up_after, told_after}
use Rattle.ix_app.specs.Handing.{Answered, sent}
use Rattle.ix_app.specs.HandingLaws.{forwards}
use Rattle.ix_apps.proofs.echo.EchoApp.event.Goals as goal

pub returns-in_ok-send-in-Recv-clause-answered : goal.returns-in_ok-send-in-Recv-clause-answered
returns-in_ok-send-in-Recv-clause-answered c = λ up told r s.
    rw c.in-Recv.is
    (forwards c.in-Recv.part told c.from.result c.args.out.now c.done.new.self c.send.new.self (c.from.ensures ∙ c.len.ensures.bytes) c.done.ensures c.in_ok-send-in-Recv.ensures.ok)
