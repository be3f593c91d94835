use Rattle.std.proofs.Common.{◌≡◌, ◌++◌, drop, string_bytes}
use Rattle.ix_lines.specs.Words.{text_of}
use Rattle.ix_trace.specs.Sheet.{output_lines}
use Rattle.ix_trace.proofs.text.push_outputs.Given as goal

abbrev pub invariant-loop-output : goal.invariant-loop-output
invariant-loop-output l = string_bytes l.out ++ text_of (output_lines (drop l.output-index l.outputs)) ≡ string_bytes l.fn.out ++ text_of (output_lines l.outputs)
