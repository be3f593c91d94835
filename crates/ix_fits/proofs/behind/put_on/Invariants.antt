use Rattle.std.proofs.Common.{◌≡◌, ◌+◌, ◌≤◌, take, drop}
use Rattle.ix_fits.specs.Behind.{items_after, table_behind}
use Rattle.ix_fits.proofs.behind.put_on.Given as goal

abbrev pub invariant-loop-i : goal.invariant-loop-i
invariant-loop-i l = (l.items ≤ l.i)
    × (l.items + items_after l.ring (table_behind l.live (take l.i l.done)) (drop l.i l.done) ≡ items_after l.ring (table_behind l.live (take l.from l.done)) (drop l.from l.done))
