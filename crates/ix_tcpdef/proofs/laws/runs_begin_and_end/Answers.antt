use Rattle.ix_tcpdef.proofs.LivedLemmas.{all_begin, steps_live, runs_live}
use Rattle.ix_tcpdef.proofs.laws.runs_begin_and_end.Goals as goal

pub returns-clause-begins : goal.returns-clause-begins
returns-clause-begins c = all_begin

pub returns-clause-steps : goal.returns-clause-steps
returns-clause-steps c = steps_live

pub returns-clause-runs : goal.returns-clause-runs
returns-clause-runs c = runs_live
