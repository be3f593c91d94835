use Rattle.std.proofs.Common.{◌≡◌, ◌<◌, ℕ, length, get_or}
use Rattle.ix_fits.specs.Journals.{IsConnLine}
use Rattle.ix_lines.specs.declared.types.ConnLine.{ConnLine}
use Rattle.ix_decide.proofs.lines.are_conn_lines.Given as goal
use Rattle.ix_groupdef.specs.declared.types.ConnEnd.{ConnEnd}

abbrev pub invariant-loop-i : goal.invariant-loop-i
invariant-loop-i l = record {
  long : length l.conns ≡ length l.lines;
  each : (k : ℕ) (d : ConnEnd) (e : ConnLine) → k < l.i → IsConnLine (get_or l.conns k d) (get_or l.lines k e);
}
