use Rattle.std.proofs.Common.{◌≡◌, map, take}
use Rattle.ix_playdef.specs.Order.{number_of}
use Rattle.ix_places.proofs.filed.are_named.Given as goal

abbrev pub invariant-loop-i : goal.invariant-loop-i
invariant-loop-i l = take l.i l.numbers ≡ take l.i (map (number_of l.sorted) l.keys)
