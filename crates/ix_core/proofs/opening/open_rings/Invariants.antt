use Rattle.std.proofs.Common.{◌≡◌, All, length}
use Rattle.ix_nic.specs.Cards.{IsUnused}
use Rattle.ix_core.specs.Opening.{EndsAreNew}
use Rattle.ix_core.specs.Order.{EndsAreInOrder}
use Rattle.ix_core.proofs.opening.open_rings.Given as goal

abbrev pub invariant-loop-number : goal.invariant-loop-number
invariant-loop-number g l = record {
  count : length l.cores.items ≡ l.number;
  order : EndsAreInOrder l.card.items l.cores.items;
  fresh : EndsAreNew l.places l.card.items l.cores.items;
  unused : All IsUnused l.card.items;
}
