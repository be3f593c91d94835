use Rattle.std.proofs.Common.{◌≡◌, ◌-◌, ◌≤◌}
use Rattle.ix_time.specs.Places.{empties_in}
use Rattle.ix_time.proofs.places.empties_in.Given as goal

abbrev pub invariant-loop : goal.invariant-loop
invariant-loop l = record {
  same : empties_in 10 l.clock l.now l.place ≡ empties_in (11 - l.counter) l.clock_groups l.now_groups l.slot;
  levels : l.counter ≤ 11;
}
