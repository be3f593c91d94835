use Rattle.std.proofs.Common.{◌≡◌, ◌≤◌, ◌++◌, drop, string_bytes}
use Rattle.ix_lines.specs.Words.{text_of}
use Rattle.ix_trace.specs.Sheet.{conn_lines, no_conn}
use Rattle.ix_trace.proofs.text.push_conns.Given as goal

abbrev pub invariant-loop-conn : goal.invariant-loop-conn
invariant-loop-conn l = (l.next ≤ l.conn-index) × (string_bytes l.out ++ text_of (conn_lines (record { group = l.group; next = l.next }) (drop l.conn-index l.conns)) ≡ string_bytes l.fn.out ++ text_of (conn_lines no_conn l.conns))
