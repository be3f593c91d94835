use Rattle.std.proofs.Common.{◌≡◌, ◌++◌, drop, string_bytes}
use Rattle.ix_lines.specs.Words.{text_of}
use Rattle.ix_trace.specs.Sheet.{entry_lines}
use Rattle.ix_trace.proofs.text.push_entries.Given as goal

abbrev pub invariant-loop-wire : goal.invariant-loop-wire
invariant-loop-wire l = string_bytes l.out ++ text_of (entry_lines l.wire (drop l.wire l.entries) l.rest) ≡ string_bytes l.fn.out ++ text_of (entry_lines 0 l.entries l.settles)
