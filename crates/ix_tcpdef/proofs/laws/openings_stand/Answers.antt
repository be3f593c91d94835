use Rattle.ix_tcpdef.proofs.OpeningLemmas.{begins_opening, steps_open}
use Rattle.ix_tcpdef.proofs.laws.openings_stand.Goals as goal

pub returns-clause-begins : goal.returns-clause-begins
returns-clause-begins c = begins_opening

pub returns-clause-steps : goal.returns-clause-steps
returns-clause-steps c = steps_open
