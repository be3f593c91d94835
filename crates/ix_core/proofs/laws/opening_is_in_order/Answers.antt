use Rattle.ix_core.proofs.Orders.{opening_in_order}
use Rattle.ix_core.proofs.laws.opening_is_in_order.Goals as goal

pub returns : goal.returns
returns g c = λ x card ends cores all m so. opening_in_order x card ends cores all m so
