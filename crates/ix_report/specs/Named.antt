-- Which records of the replies the lines of a report name.
use Rattle.std.specs.Prelude.{◌≡◌, ℕ, Bool, false, ◌==◌, nat_lt, if◌then◌else◌, length, count_by, Option, Some, None}
use Rattle.ix_lines.specs.declared.line.Line.{Line}
use Rattle.ix_lines.specs.declared.line.Line.TheVariants as lines
use Rattle.ix_lines.specs.declared.types.OutputLine.{OutputLine}
use Rattle.ix_lines.specs.declared.types.OutputLine.TheVariants as given
use Rattle.ix_playdef.specs.Replies.{Places}
use Rattle.ix_report.specs.Lines.{lines_of}
use Rattle.ix_report.specs.declared.report.Report.{Report}

abbrev pub output_names : ℕ → OutputLine → Bool
output_names n (given.Reply m) = m == n
output_names n _ = false

abbrev pub answer_names : ℕ → Option ℕ → Bool
answer_names n (Some m) = m == n
answer_names n None = false

-- A connection's frame and the answer to a stray are named by their number.
abbrev pub names : ℕ → Line → Bool
names n (lines.Output output) = output_names n output
names n (lines.Stray s) = answer_names n s.reply
names n _ = false

abbrev pub names_if_any : ℕ → Option Line → Bool
names_if_any n None = false
names_if_any n (Some line) = names n line

-- Exactly one line of the report names each record, counted from 0, and none names a record that isn't there.
pub record NamesEachOnce (places : Places) (r : Report) : Type 0 where
  pub count : (n : ℕ) → count_by (names_if_any n) (lines_of places r) ≡ (if nat_lt n (length r.replies) then 1 else 0)
