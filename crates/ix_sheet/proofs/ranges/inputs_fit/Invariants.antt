use Rattle.std.proofs.Common.{◌<◌, ℕ, get_or}
use Rattle.ix_lines.specs.declared.types.InputLine.{InputLine}
use Rattle.ix_sheet.specs.Ranges.{FitsInputLine}
use Rattle.ix_sheet.proofs.ranges.inputs_fit.Given as goal

abbrev pub invariant-loop-input : goal.invariant-loop-input
invariant-loop-input l = (i : ℕ) (d : InputLine) → i < l.input-index → FitsInputLine (get_or l.inputs i d)
