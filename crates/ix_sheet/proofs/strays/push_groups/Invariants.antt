use Rattle.std.proofs.Common.{◌≡◌, ◌++◌, drop}
use Rattle.ix_playdef.specs.Placed.{placed}
use Rattle.ix_sheet.specs.Strays.{all_strays, group_strays}
use Rattle.ix_sheet.proofs.strays.push_groups.Given as goal

abbrev pub invariant-loop-i : goal.invariant-loop-i
invariant-loop-i l = l.lines.items ++ placed (group_strays l.replies) l.i (drop l.i l.groups) ≡ l.fn.lines.items ++ all_strays l.replies l.groups
