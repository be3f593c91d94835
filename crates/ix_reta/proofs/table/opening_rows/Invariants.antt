use Rattle.std.proofs.Common.{◌≡◌, [], length}
use Rattle.ix_reta.specs.Rows.{RowsBelow}
use Rattle.ix_reta.proofs.table.opening_rows.Given as goal

abbrev pub invariant-loop-group : goal.invariant-loop-group
invariant-loop-group l = record {
  count : length l.rows.items ≡ l.group;
  each : RowsBelow l.live [] l.rows.items l.group;
}
