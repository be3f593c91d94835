use Rattle.std.proofs.Common.{◌≡◌, ◌++◌, drop}
use Rattle.ix_playdef.specs.Placed.{placed}
use Rattle.ix_playdef.specs.Replies.{by_opening}
use Rattle.ix_report.specs.Lines.{conn_lines, present}
use Rattle.ix_report.proofs.lines.push_group.Given as goal

abbrev pub invariant-loop-i : goal.invariant-loop-i
invariant-loop-i l =
    present l.lines.items ++ placed (conn_lines by_opening l.replies l.group.0) l.i (drop l.i l.conns) ≡ present l.fn.lines.items ++ placed (conn_lines by_opening l.replies l.group.0) 0 l.conns
