use Rattle.std.proofs.Common.{◌≡◌, drop, map}
use Rattle.ix_fits.specs.Card.{entry_of}
use Rattle.ix_order.specs.Steppers.{next_core}
use Rattle.ix_told.proofs.progress.next_core.Given as goal

abbrev pub invariant-loop-entry : goal.invariant-loop-entry
invariant-loop-entry l = next_core l.group.0 (map entry_of (drop l.entry-index l.rest)) ≡ next_core l.group.0 (map entry_of l.rest)
