use Rattle.std.proofs.Common.{◌≡◌, drop}
use Rattle.ix_wire.specs.Progress.{with_plan}
use Rattle.ix_wire.specs.Saved.{GoesOn}
use Rattle.ix_wire.proofs.progress.Progress.carry_out.Given as goal

abbrev pub invariant-loop-one : goal.invariant-loop-one
invariant-loop-one l = record {
  is : with_plan l.number l.width (drop l.one-index l.plan) l.self ≡ with_plan l.number l.width l.plan l.fn.self;
  onward : GoesOn l.fn.self.wire l.self.wire;
}
