use Rattle.ix_entire.proofs.Whole.{runs-are-whole, runs-can-close}
use Rattle.ix_entire.proofs.laws.runs_are_whole.Goals as goal

pub returns : goal.returns
returns c = record {
  close = runs-can-close c.runs_are_played.ensures.runs c.cores_join.ensures c.steps_are_named.ensures c.meetings_are_ready.ensures;
  whole = runs-are-whole c.plays_begin.ensures c.runs_are_played.ensures.runs c.courses_go_on.ensures.goes_on c.courses_fit.ensures.fits c.cores_join.ensures c.steps_are_named.ensures c.meetings_are_ready.ensures;
}
