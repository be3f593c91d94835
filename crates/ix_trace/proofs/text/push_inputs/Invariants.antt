use Rattle.std.proofs.Common.{◌≡◌, ◌++◌, drop, string_bytes}
use Rattle.ix_lines.specs.Words.{text_of}
use Rattle.ix_trace.specs.Sheet.{input_lines}
use Rattle.ix_trace.proofs.text.push_inputs.Given as goal

abbrev pub invariant-loop-input : goal.invariant-loop-input
invariant-loop-input l = string_bytes l.out ++ text_of (input_lines (drop l.input-index l.inputs)) ≡ string_bytes l.fn.out ++ text_of (input_lines l.inputs)
