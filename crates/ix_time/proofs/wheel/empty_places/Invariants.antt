use Rattle.std.proofs.Common.{◌≡◌, [], replicate, vec_capacity}
use Rattle.ix_time.proofs.wheel.empty_places.Given as goal

abbrev pub invariant-loop : goal.invariant-loop
invariant-loop l = record {
  places : l.places.items ≡ replicate l.counter [];
  room : vec_capacity l.places ≡ l.count;
}
