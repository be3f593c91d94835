use Rattle.ix_tcpdef.proofs.StandingLemmas.{acknowledgements_keep, holds_in_place}
use Rattle.ix_tcpdef.proofs.laws.arrivals_keep.Goals as goal

pub returns-clause-acknowledgements : goal.returns-clause-acknowledgements
returns-clause-acknowledgements c = acknowledgements_keep

pub returns-clause-held : goal.returns-clause-held
returns-clause-held c = holds_in_place
