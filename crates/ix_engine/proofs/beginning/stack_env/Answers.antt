use Rattle.std.proofs.Common.{ap, ◌∙◌}
use Rattle.ix_appdef.specs.declared.application.Application.{Application}
use Rattle.ix_groupdef.specs.declared.env.Env.{Env}
use Rattle.ix_groupdef.specs.Owners.{sends_parts}
use Rattle.ix_groupdef.specs.Setting.{Setting}
use Rattle.ix_playdef.specs.Setting.{application_of}
use Rattle.ix_engine.proofs.Begins.{same_parts}
use Rattle.ix_engine.proofs.beginning.stack_env.Goals as goal

pub returns-clause-whole : goal.returns-clause-whole
returns-clause-whole c =
    ap (λ (e : Env Application). sends_parts e.app) c.new.ensures
    ∙ same_parts c.in_ok-env.env.app (application_of c.args.conf.now.app c.args.conf.now.text) (ap (λ (s : Setting). s.answer) c.in_ok-env.ensures.setting)
