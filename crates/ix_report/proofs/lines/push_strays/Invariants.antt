use Rattle.std.proofs.Common.{◌≡◌, ◌++◌, map, take}
use Rattle.ix_lines.specs.declared.line.Line.TheVariants as kinds
use Rattle.ix_report.proofs.lines.push_strays.Given as goal

abbrev pub invariant-loop-stray : goal.invariant-loop-stray
invariant-loop-stray l = l.lines.items ≡ l.fn.lines.items ++ map kinds.Stray (take l.stray-index l.strays)
