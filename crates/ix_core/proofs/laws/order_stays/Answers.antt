use Rattle.ix_core.proofs.Orders.{order_stays}
use Rattle.ix_core.proofs.laws.order_stays.Goals as goal

pub returns : goal.returns
returns g c = λ x y old new m card so. order_stays x y old new m card so
