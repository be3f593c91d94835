use Rattle.std.proofs.Common.{◌≡◌, drop, length}
use Rattle.ix_fits.specs.Journals.{are_input_lines}
use Rattle.ix_fits.proofs.journals.are_input_lines.Given as goal

abbrev pub invariant-loop-i : goal.invariant-loop-i
invariant-loop-i l = (length l.journal ≡ length l.lines)
    × (are_input_lines l.entries l.ends l.i (drop l.i l.journal) (drop l.i l.lines) ≡ are_input_lines l.entries l.ends 0 l.journal l.lines)
