-- The line that tells how a generated play went. Formats: docs/GEN.md.
use Rattle.std.specs.Prelude.{ℕ, ◌+◌, ◌-◌, ◌^◌, List, [], ◌∷◌, ◌++◌, Bool, true, false, codes, count_by, if◌then◌else◌, nat_lt}
use Rattle.std.specs.Fmt.{decimal}
use Rattle.ix_lines.specs.declared.types.ConnLine.{ConnLine}
use Rattle.ix_lines.specs.declared.types.EntryLine.{EntryLine}
use Rattle.ix_lines.specs.declared.types.EntryLine.TheVariants.{Frame}
use Rattle.ix_lines.specs.declared.types.Fate.{Fate}
use Rattle.ix_lines.specs.declared.types.Fate.TheVariants.{Buf}
use Rattle.ix_lines.specs.declared.types.InputLine.{InputLine}
use Rattle.ix_lines.specs.declared.types.OutputLine.{OutputLine}
use Rattle.ix_lines.specs.declared.types.OutputLine.TheVariants.{Recv}
use Rattle.ix_trace.specs.declared.sheet.Sheet.{Sheet}

abbrev pub is_frame : EntryLine → Bool
is_frame (Frame rec at group ring fate) = true
is_frame _ = false

abbrev pub has_buffer : Fate → Bool
has_buffer (Buf id) = true
has_buffer _ = false

-- a frame that was accepted, and one that was dropped
abbrev pub is_accepted : EntryLine → Bool
is_accepted (Frame rec at group ring fate) = has_buffer fate
is_accepted _ = false

-- the sum of what f gives of the elements
abbrev pub total : {A : Type 0} → (A → ℕ) → List A → ℕ
total f [] = 0
total f (x ∷ xs) = f x + total f xs

-- the bytes that the application is told
abbrev pub told_by : OutputLine → ℕ
told_by (Recv id from len) = len
told_by _ = 0

abbrev pub told_in : InputLine → ℕ
told_in input = total told_by input.outputs

abbrev pub told_to : ConnLine → ℕ
told_to conn = total told_in conn.inputs

-- the bytes of its answers that TCP took
abbrev pub taken_of : ConnLine → ℕ
taken_of conn = conn.taken

-- a sum as a number of 64 bits, the greatest of them where the sum is more
unfoldable pub capped : ℕ → ℕ
capped n = if nat_lt n (2 ^ 64) then n else 2 ^ 64 - 1

-- the line: which play it was, how many frames came and how many of them were accepted, and how many bytes went in and out
unfoldable pub names_text : ℕ → ℕ → List ℕ
names_text number conns = codes "gen " ++ decimal number ++ codes " conns " ++ decimal conns

unfoldable pub counts_text : ℕ → ℕ → List ℕ
counts_text frames accepted = codes " frames " ++ decimal frames ++ codes " accepted " ++ decimal accepted

unfoldable pub sums_text : ℕ → ℕ → List ℕ
sums_text delivered answered = codes " delivered " ++ decimal delivered ++ codes " answered " ++ decimal answered ++ codes "\n"

unfoldable pub summary_line : ℕ → ℕ → ℕ → ℕ → ℕ → ℕ → List ℕ
summary_line number conns frames accepted delivered answered =
    names_text number conns ++ counts_text frames accepted ++ sums_text delivered answered

-- the line of a report
abbrev pub summary_text : ℕ → ℕ → Sheet → List ℕ
summary_text number conns sheet =
    summary_line number conns (count_by is_frame sheet.entries) (count_by is_accepted sheet.entries) (capped (total told_to sheet.conns))
    (capped (total taken_of sheet.conns))
