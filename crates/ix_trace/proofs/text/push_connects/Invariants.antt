use Rattle.std.proofs.Common.{◌≡◌, ◌++◌, drop, string_bytes}
use Rattle.ix_lines.specs.Words.{text_of}
use Rattle.ix_trace.specs.Sheet.{connect_lines}
use Rattle.ix_trace.proofs.text.push_connects.Given as goal

abbrev pub invariant-loop-peer : goal.invariant-loop-peer
invariant-loop-peer l = string_bytes l.out ++ text_of (connect_lines l.peer (drop l.peer l.connects)) ≡ string_bytes l.fn.out ++ text_of (connect_lines 0 l.connects)
