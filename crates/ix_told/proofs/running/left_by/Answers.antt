use Rattle.std.specs.Prelude.{filter}
use Rattle.std.proofs.Common.{◌∙◌, ap}
use Rattle.std.proofs.lemmas.Result.{IfOk-weaker}
use Rattle.ix_groupdef.specs.Env.{setting_of}
use Rattle.ix_groupdef.specs.Group.{Group}
use Rattle.ix_groupdef.specs.Record.{record_of}
use Rattle.ix_playdef.specs.Connects.{is_asked_in}
use Rattle.ix_told.proofs.FitLaws.{left-fits}
use Rattle.ix_told.proofs.running.left_by.Goals as goal

pub returns-clause-fit : goal.returns-clause-fit
returns-clause-fit c =
    let env = setting_of c.args.env.now in
    let asked = filter (is_asked_in env.local.ip c.args.group.0) c.args.asked.now in
    IfOk-weaker c.finish.result _ _ (λ left is.
    left-fits c.groups_are_sound.ensures.frames c.groups_are_sound.ensures.whole c.groups_are_sound.ensures.strays c.payloads_lie_within.ensures env asked c.args.cycles.now left c.requires.range c.requires.mac
    (is ∙ ap (λ (g : Group). record_of env g) c.in_ok-plain.ensures))
    c.finish.ensures
