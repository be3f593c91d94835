use Rattle.ix_tcpdef.proofs.FairStep.{kept-run, fair-run}
use Rattle.ix_tcpdef.proofs.DeliverStep.{delivered-run, agreed-run}
use Rattle.ix_tcpdef.proofs.laws.runs_are_sound.Goals as goal

pub returns-clause-kept : goal.returns-clause-kept
returns-clause-kept c = kept-run

pub returns-clause-frames : goal.returns-clause-frames
returns-clause-frames c = fair-run

pub returns-clause-told : goal.returns-clause-told
returns-clause-told c = delivered-run

pub returns-clause-agreed : goal.returns-clause-agreed
returns-clause-agreed c = agreed-run
