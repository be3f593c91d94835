use Rattle.ix_tcpdef.proofs.NumberLemmas.{counts_ahead, tests_past, tests_at_or_past, tells_apart, goes_on, finds_position}
use Rattle.ix_tcpdef.proofs.laws.numbers_stand_for_positions.Goals as goal

pub returns-clause-ahead : goal.returns-clause-ahead
returns-clause-ahead c = counts_ahead

pub returns-clause-past : goal.returns-clause-past
returns-clause-past c = tests_past

pub returns-clause-at_or_past : goal.returns-clause-at_or_past
returns-clause-at_or_past c = tests_at_or_past

pub returns-clause-apart : goal.returns-clause-apart
returns-clause-apart c = tells_apart

pub returns-clause-further : goal.returns-clause-further
returns-clause-further c = goes_on

pub returns-clause-found : goal.returns-clause-found
returns-clause-found c = finds_position
