use Rattle.std.proofs.Common.{◌≡◌, ◌+◌, ◌-◌, ◌*◌, ◌≤◌}
use Rattle.ix_time.proofs.PlaceLemmas.{spot}
use Rattle.ix_time.proofs.places.place_in.Given as goal

abbrev pub invariant-loop : goal.invariant-loop
invariant-loop l = record {
  first : l.first + 64 ≡ 64 * l.counter;
  place : spot 10 l.clock l.tick ≡ l.first + spot (11 - l.counter) l.clock_groups l.tick_groups;
  levels : l.counter ≤ 11;
}
