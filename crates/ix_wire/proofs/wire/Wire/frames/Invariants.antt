use Rattle.std.proofs.Common.{◌≡◌, drop}
use Rattle.ix_wire.specs.Wire.{with_frames}
use Rattle.ix_wire.specs.Saved.{GoesOn}
use Rattle.ix_wire.proofs.wire.Wire.frames.Given as goal

abbrev pub invariant-loop-rec : goal.invariant-loop-rec
invariant-loop-rec l = record {
  is : with_frames (drop l.rec-index l.records) l.self ≡ with_frames l.records l.fn.self;
  onward : GoesOn l.fn.self l.self;
}
