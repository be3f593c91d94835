use Rattle.ix_deeds.proofs.Going.{desks-stay, pieces-are-open, units-go-on}
use Rattle.ix_deeds.proofs.Rings.{rings-are-right}
use Rattle.ix_deeds.proofs.laws.units_go_on.Goals as goal

pub returns : goal.returns
returns row c = record { units = units-go-on _ _ _ _ _; stay = desks-stay _ _ _ _ _; rings = rings-are-right _ _; pieces = pieces-are-open _ _ _ _ _ }
