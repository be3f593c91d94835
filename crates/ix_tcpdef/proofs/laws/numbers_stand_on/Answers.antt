use Rattle.ix_tcpdef.proofs.StandingLemmas.{stands_first, stands_on}
use Rattle.ix_tcpdef.proofs.laws.numbers_stand_on.Goals as goal

pub returns-clause-first : goal.returns-clause-first
returns-clause-first c = stands_first

pub returns-clause-on : goal.returns-clause-on
returns-clause-on c = stands_on
