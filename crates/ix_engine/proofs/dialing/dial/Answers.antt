use Rattle.std.proofs.Common.{rules, refl, subst}
use Rattle.std.proofs.lemmas.List.{get_or_default}
use Rattle.ix_conf.specs.Settings.{settings_of}
use Rattle.ix_engine.specs.Courses.{peers_of}
use Rattle.ix_engine.specs.Openings.{StackCore}
use Rattle.ix_engine.specs.Steps.{IsDialed}
use Rattle.ix_engine.proofs.dialing.dial.Goals as goal

-- src/dialing.rt:58:1
pub returns : goal.returns
returns c = record {
  first = c.dial_core.new.core;
  is = λ d.
      subst (λ (x : StackCore). IsDialed c.args.env.now (peers_of (settings_of c.args.conf.now)) c.in_ok-told.told x c.dial_core.new.core) (search (rules, get_or_default)) c.in_ok-told.ensures;
  cores = refl;
}
