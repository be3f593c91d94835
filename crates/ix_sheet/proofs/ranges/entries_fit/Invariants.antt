use Rattle.std.proofs.Common.{◌<◌, ℕ, get_or}
use Rattle.ix_lines.specs.declared.types.EntryLine.{EntryLine}
use Rattle.ix_lines.specs.Words.{FitsEntry}
use Rattle.ix_sheet.proofs.ranges.entries_fit.Given as goal

abbrev pub invariant-loop-entry : goal.invariant-loop-entry
invariant-loop-entry l = (i : ℕ) (d : EntryLine) → i < l.entry-index → FitsEntry (get_or l.entries i d)
