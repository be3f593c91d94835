use Rattle.ix_pools.proofs.Rings.{epochs-keep-seats, epochs-within}
use Rattle.ix_pools.proofs.laws.rings_stay.Goals as goal

pub returns : goal.returns
returns start = record {
  seats = epochs-keep-seats;
  within = epochs-within;
}
