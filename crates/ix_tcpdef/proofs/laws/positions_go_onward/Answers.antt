use Rattle.ix_tcpdef.proofs.OnwardLemmas.{steps_go_onward, follows_numbers}
use Rattle.ix_tcpdef.proofs.laws.positions_go_onward.Goals as goal

pub returns-clause-steps : goal.returns-clause-steps
returns-clause-steps c = steps_go_onward

pub returns-clause-follows : goal.returns-clause-follows
returns-clause-follows c = follows_numbers
