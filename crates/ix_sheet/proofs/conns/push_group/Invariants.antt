use Rattle.std.proofs.Common.{◌≡◌, ◌++◌, drop}
use Rattle.ix_sheet.specs.Lines.{by_place, conn_line, present}
use Rattle.ix_sheet.proofs.conns.push_group.Given as goal

abbrev pub invariant-loop-i : goal.invariant-loop-i
invariant-loop-i l =
    present l.lines.items ++ by_place (conn_line l.source.entries.now l.source.replies.now l.group.0) l.i (drop l.i l.conns)
    ≡ present l.fn.lines.items ++ by_place (conn_line l.source.entries.now l.source.replies.now l.group.0) 0 l.conns
