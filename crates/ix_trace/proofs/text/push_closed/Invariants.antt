use Rattle.std.proofs.Common.{◌≡◌, ◌++◌, drop, string_bytes}
use Rattle.ix_lines.specs.Words.{text_of}
use Rattle.ix_trace.specs.Sheet.{closed_lines}
use Rattle.ix_trace.proofs.text.push_closed.Given as goal

abbrev pub invariant-loop-core : goal.invariant-loop-core
invariant-loop-core l = string_bytes l.out ++ text_of (closed_lines l.core (drop l.core l.closed)) ≡ string_bytes l.fn.out ++ text_of (closed_lines 0 l.closed)
