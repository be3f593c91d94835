use Rattle.std.proofs.Common.{◌≡◌, ◌++◌, drop}
use Rattle.ix_playdef.specs.Placed.{placed}
use Rattle.ix_playdef.specs.Replies.{by_opening}
use Rattle.ix_report.specs.Lines.{input_lines, present}
use Rattle.ix_report.proofs.lines.push_journal.Given as goal

abbrev pub invariant-loop-i : goal.invariant-loop-i
invariant-loop-i l =
    present l.lines.items ++ placed (input_lines by_opening l.replies l.group.0 l.opening l.ends) l.i (drop l.i l.journal)
    ≡ present l.fn.lines.items ++ placed (input_lines by_opening l.replies l.group.0 l.opening l.ends) 0 l.journal
