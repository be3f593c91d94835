use Rattle.ix_report.proofs.LineLaws.{has_text}
use Rattle.ix_report.proofs.laws.reports_are_sound.Goals as goal

pub returns : goal.returns
returns c =
    record {
      sound = λ conf frames entries places r bytes fits group d lt. c.records_are_sound.ensures.records conf frames entries _ bytes fits.groups group d lt;
      text = λ conf frames entries places r fits. has_text places r (c.records_are_sound.ensures.told conf frames entries r.groups fits.groups);
    }
