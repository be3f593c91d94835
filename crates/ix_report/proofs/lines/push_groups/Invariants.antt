use Rattle.std.proofs.Common.{◌≡◌, ◌++◌, drop}
use Rattle.ix_playdef.specs.Placed.{placed}
use Rattle.ix_playdef.specs.Replies.{by_opening}
use Rattle.ix_report.specs.Lines.{group_lines, present}
use Rattle.ix_report.proofs.lines.push_groups.Given as goal

abbrev pub invariant-loop-i : goal.invariant-loop-i
invariant-loop-i l =
    present l.lines.items ++ placed (group_lines by_opening l.replies) l.i (drop l.i l.groups) ≡ present l.fn.lines.items ++ placed (group_lines by_opening l.replies) 0 l.groups
