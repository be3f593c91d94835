use Rattle.std.proofs.Common.{refl, rules}
use Rattle.ix_conf.specs.Settings.{settings_of}
use Rattle.ix_playdef.specs.Own.{local_of}
use Rattle.ix_playdef.specs.Replies.{by_opening}
use Rattle.ix_report.proofs.LineLaws.{told_by_fit}
use Rattle.ix_report.proofs.NamedLaws.{named-once}
use Rattle.ix_report.proofs.playing.play.Goals as goal

pub returns-clause-fits : goal.returns-clause-fits
returns-clause-fits c =
    record {
      groups = search rules;
      connects = search rules;
      free = record { apart = λ entry group phase a b same. same; connects = λ entry group opening. refl; taken = λ entry group opening. refl };
      replies = search rules;
      order = search rules;
      numbered = search rules;
      once = named-once by_opening (local_of (settings_of c.args.conf.now)) _ (search rules) (search rules) (search rules);
      strays = search rules;
      rising = search rules;
      drops = search rules;
    }

pub returns-clause-told : goal.returns-clause-told
returns-clause-told c = told_by_fit c.in_ok-groups.groups.items c.from_vec.result c.from_vec.ensures c.in_ok-groups.ensures.fit
