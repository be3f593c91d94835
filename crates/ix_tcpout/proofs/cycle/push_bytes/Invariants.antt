use Rattle.std.proofs.Common.{◌≡◌, ◌++◌, ◌+◌, ◌*◌, ◌<◌, ◌≤◌, ◌^◌, length}
use Rattle.ix_tcpout.specs.Parts.{segments}
use Rattle.ix_tcpout.proofs.cycle.push_bytes.Given as goal

abbrev pub invariant-loop-left : goal.invariant-loop-left
invariant-loop-left l = record {
  value : l.entries.items ++ segments l.cfg l.tcb l.left l.from l.left ≡ l.fn.entries.items ++ segments l.fn.cfg l.fn.tcb l.fn.left l.fn.from l.fn.left;
  room : length l.entries.items ≤ 1025;
  fill : 0 < l.left → 64 * length l.entries.items + l.left ≤ 65599;
  window : l.left ≤ 65535;
  place : l.from + l.left < 2 ^ 32;
}

abbrev pub decreases-loop-left : goal.decreases-loop-left
decreases-loop-left l = l.left
