use Rattle.std.proofs.Common.{◌≡◌, ◌≤◌, length}
use Rattle.ix_wire.specs.Text.{lines_of}
use Rattle.ix_wire.specs.Script.{lines_run}
use Rattle.ix_wire.proofs.reading.read_lines.Given as goal

abbrev pub invariant-loop-rest : goal.invariant-loop-rest
invariant-loop-rest l = record {
  number : l.number ≤ l.limit;
  read : lines_run l.limit l.records l.number l.progress (lines_of l.rest) ≡ lines_run l.limit l.records 0 l.fn.progress (lines_of l.bytes);
}

abbrev pub decreases-loop-rest : goal.decreases-loop-rest
decreases-loop-rest l = length l.rest
