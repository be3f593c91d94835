use Rattle.std.proofs.Common.{◌≡◌, ◌++◌, drop}
use Rattle.ix_playdef.specs.Placed.{placed}
use Rattle.ix_report.specs.Lines.{one_stray}
use Rattle.ix_report.proofs.strays.push_group.Given as goal

abbrev pub invariant-loop-i : goal.invariant-loop-i
invariant-loop-i l =
    l.lines.items ++ placed (one_stray l.replies l.group.0) l.i (drop l.i l.strays)
    ≡ l.fn.lines.items ++ placed (one_stray l.replies l.group.0) 0 l.strays
