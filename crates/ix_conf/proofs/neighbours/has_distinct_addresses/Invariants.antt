use Rattle.std.proofs.Common.{◌≡◌, drop}
use Rattle.ix_conf.specs.Neighbour.{has_distinct_addresses}
use Rattle.ix_conf.proofs.neighbours.has_distinct_addresses.Given as goal

abbrev pub invariant-loop-i : goal.invariant-loop-i
invariant-loop-i l = has_distinct_addresses (drop l.i l.neighbours) ≡ has_distinct_addresses l.neighbours
