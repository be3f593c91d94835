use Rattle.std.proofs.Common.{◌≡◌, length}
use Rattle.std.specs.Prelude.{All}
use Rattle.ix_nic.specs.Cards.{IsUnused}
use Rattle.ix_spread.proofs.tests.card.three_sides.Given as goal

abbrev pub invariant-loop-core : goal.invariant-loop-core
invariant-loop-core l = record { count : length l.ends.items ≡ l.core; unused : All IsUnused l.ends.items }
