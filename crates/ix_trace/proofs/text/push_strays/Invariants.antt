use Rattle.std.proofs.Common.{◌≡◌, ◌++◌, drop, string_bytes}
use Rattle.ix_lines.specs.Words.{text_of}
use Rattle.ix_trace.specs.Sheet.{stray_lines}
use Rattle.ix_trace.proofs.text.push_strays.Given as goal

abbrev pub invariant-loop-stray : goal.invariant-loop-stray
invariant-loop-stray l = string_bytes l.out ++ text_of (stray_lines (drop l.stray-index l.strays)) ≡ string_bytes l.fn.out ++ text_of (stray_lines l.strays)
