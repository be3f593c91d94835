use Rattle.std.proofs.Common.{refl, ◌∙◌}
use Rattle.ix_apps.proofs.SessionLaws.{grown, goes_on}
use Rattle.ix_apps.proofs.kv.answers_to.Goals as goal

pub returns-clause-continues : goal.returns-clause-continues
returns-clause-continues c = λ told p.
    goes_on c.args.session.now c.take_all.new.session
    (record { store = c.take_all.new.session.store; line = c.take_all.new.session.line; answer = c.replace.new.dest })
    told c.args.bytes.now p c.in_ok-take_all.ensures refl refl (c.replace.ensures.after ∙ c.new.ensures)

pub returns-clause-answers : goal.returns-clause-answers
returns-clause-answers c = λ told p. c.replace.ensures.value ∙ grown c.args.session.now c.take_all.new.session told c.args.bytes.now p c.in_ok-take_all.ensures
