use Rattle.std.proofs.Common.{sym, ◌∙◌}
use Rattle.ix_app.specs.Told.{up_after, told_after}
use Rattle.ix_app.specs.Handing.{Answered, sent}
use Rattle.ix_apps.proofs.PushLaws.{again, once}
use Rattle.ix_apps.proofs.push.PushApp.event.Goals as goal

pub returns-then-conn-clause-answered : goal.returns-then-conn-clause-answered
returns-then-conn-clause-answered c = λ up told r s. rw c.in-Up.is (again c.args.self.now.text up told c.args.out.now (sym s ∙ c.if-conn.true))

pub returns-in_ok-send-in-Up-clause-answered : goal.returns-in_ok-send-in-Up-clause-answered
returns-in_ok-send-in-Up-clause-answered c = λ up told r s.
    rw c.in-Up.is
    (once c.args.self.now.text c.in_ok-text-in-Up.text up told c.args.out.now c.send.new.self (sym s ∙ c.if-conn.false) c.in_ok-text-in-Up.ensures c.in_ok-send-in-Up.ensures.ok)
