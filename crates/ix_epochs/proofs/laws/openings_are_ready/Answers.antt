use Rattle.ix_epochs.proofs.Readiness.{opening_ready}
use Rattle.ix_epochs.proofs.laws.openings_are_ready.Goals as goal

pub returns : goal.returns
returns g c = λ n x card ends cores all m fresh so. opening_ready n x card ends cores all m fresh so (c.opening_is_in_order.ensures x card ends cores all m so)
