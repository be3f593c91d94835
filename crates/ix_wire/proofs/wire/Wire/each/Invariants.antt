use Rattle.std.proofs.Common.{◌≡◌, drop}
use Rattle.ix_wire.specs.Wire.{with_all_each}
use Rattle.ix_wire.specs.Saved.{GoesOn}
use Rattle.ix_wire.proofs.wire.Wire.each.Given as goal

abbrev pub invariant-loop-rec : goal.invariant-loop-rec
invariant-loop-rec l = record {
  is : with_all_each (drop l.rec-index l.records) l.self ≡ with_all_each l.records l.fn.self;
  onward : GoesOn l.fn.self l.self;
}
