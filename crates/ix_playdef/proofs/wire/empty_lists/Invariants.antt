use Rattle.std.proofs.Common.{◌≡◌, length}
use Rattle.ix_playdef.specs.Wire.{AreEmpty}
use Rattle.ix_playdef.proofs.wire.empty_lists.Given as goal

abbrev pub invariant-loop-group : goal.invariant-loop-group
invariant-loop-group l = (length l.lists.items ≡ l._group) × AreEmpty l.lists.items
