use Rattle.std.proofs.Common.{◌≡◌, ◌+◌, ◌*◌, ◌-◌}
use Rattle.ix_wire.specs.Table.{groups_from}
use Rattle.ix_wire.specs.Progress.{with_all_planned}
use Rattle.ix_wire.specs.Saved.{GoesOn}
use Rattle.ix_wire.proofs.progress.Progress.shift_groups.Given as goal

abbrev pub invariant-loop-k : goal.invariant-loop-k
invariant-loop-k l = record {
  is : with_all_planned l.number l.to (groups_from (l.place + 128 * l.k) (l.width - l.k)) l.self ≡ with_all_planned l.number l.to (groups_from l.place l.width) l.fn.self;
  onward : GoesOn l.fn.self.wire l.self.wire;
}
