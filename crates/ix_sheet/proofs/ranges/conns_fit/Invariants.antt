use Rattle.std.proofs.Common.{◌<◌, ℕ, get_or}
use Rattle.ix_lines.specs.declared.types.ConnLine.{ConnLine}
use Rattle.ix_sheet.specs.Ranges.{FitsConn}
use Rattle.ix_sheet.proofs.ranges.conns_fit.Given as goal

abbrev pub invariant-loop-conn : goal.invariant-loop-conn
invariant-loop-conn l = (i : ℕ) (d : ConnLine) → i < l.conn-index → FitsConn (get_or l.conns i d)
