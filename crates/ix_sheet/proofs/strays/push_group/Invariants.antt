use Rattle.std.proofs.Common.{◌≡◌, ◌++◌, drop}
use Rattle.ix_sheet.specs.Lines.{by_place}
use Rattle.ix_sheet.specs.Strays.{stray_line}
use Rattle.ix_sheet.proofs.strays.push_group.Given as goal

abbrev pub invariant-loop-i : goal.invariant-loop-i
invariant-loop-i l =
    l.lines.items ++ by_place (stray_line l.replies l.group.0) l.i (drop l.i l.strays)
    ≡ l.fn.lines.items ++ by_place (stray_line l.replies l.group.0) 0 l.strays
