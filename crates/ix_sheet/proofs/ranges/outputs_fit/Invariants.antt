use Rattle.std.proofs.Common.{◌<◌, ℕ, get_or}
use Rattle.ix_lines.specs.declared.types.OutputLine.{OutputLine}
use Rattle.ix_lines.specs.Words.{FitsOutput}
use Rattle.ix_sheet.proofs.ranges.outputs_fit.Given as goal

abbrev pub invariant-loop-output : goal.invariant-loop-output
invariant-loop-output l = (i : ℕ) (d : OutputLine) → i < l.output-index → FitsOutput (get_or l.outputs i d)
