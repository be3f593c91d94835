use Rattle.ix_whole.proofs.Whole.{wholes-are-plays, wholes-fit, wholes-reported}
use Rattle.ix_whole.proofs.laws.plays_fit.Goals as goal

pub returns : goal.returns
returns c = record {
  plays = wholes-are-plays c.plays_are_worked.ensures;
  reported = wholes-reported c.plays_are_worked.ensures c.plays_can_be_reported.ensures;
  fit = wholes-fit c.plays_are_worked.ensures c.reports_fit.ensures;
}
