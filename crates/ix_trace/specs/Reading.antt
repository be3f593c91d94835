-- The report that a text is, or the number of its first bad line.
use Rattle.std.specs.Prelude.{◌≡◌, ℕ, ◌+◌, List, [], ◌∷◌, Option, Some, None, Result, Ok, Err, if◌then◌else◌, ◌==◌, length}
use Rattle.ix_words.specs.Parts.{parts}
use Rattle.ix_words.specs.Fields.{◌>>=◌}
use Rattle.ix_lines.specs.Read.{line_read}
use Rattle.ix_trace.specs.declared.sheet.Sheet.{Sheet}
use Rattle.ix_trace.specs.declared.progress.Progress.{Progress}
use Rattle.ix_trace.specs.declared.progress.Progress.TheVariants as states
use Rattle.ix_trace.specs.declared.reader.TraceFault.{TraceFault}
use Rattle.ix_trace.specs.declared.reader.TraceFault.TheVariants as faults
use Rattle.ix_trace.specs.Machine.{step}
use Rattle.ix_trace.specs.Rule.{IsFirstBad}

-- a report, or the number of the line that is wanted next
abbrev pub ended : ℕ → Progress → Result Sheet ℕ
ended n (states.Done s) = Ok s
ended n states.AtHead = Err (n + 1)
ended n (states.AtOpen h) = Err (n + 1)
ended n (states.InFirst h s) = Err (n + 1)
ended n (states.Between d) = Err (n + 1)
ended n (states.InSettle d s) = Err (n + 1)
ended n (states.InConn d o is) = Err (n + 1)
ended n (states.InInput d o is k os) = Err (n + 1)
ended n (states.AtAnswer d o is f) = Err (n + 1)

abbrev pub line_step : Progress → List ℕ → Option Progress
line_step s line = line_read line >>= step s

abbrev pub then_lines : ℕ → (Progress → Result Sheet ℕ) → Option Progress → Result Sheet ℕ
then_lines n go None = Err (n + 1)
then_lines n go (Some s) = go s

-- behind n lines: the parts by the line feed, of which the last is empty where the last line has its line feed
abbrev pub texts_read : ℕ → Progress → List (List ℕ) → Result Sheet ℕ
texts_read n s [] = Err (n + 1)
texts_read n s (last ∷ []) = if length last == 0 then ended n s else Err (n + 1)
texts_read n s (line ∷ next ∷ rest) = then_lines n (λ t. texts_read (n + 1) t (next ∷ rest)) (line_step s line)

abbrev pub trace_read : List ℕ → Result Sheet ℕ
trace_read bytes = texts_read 0 states.AtHead (parts 10 bytes)

-- ## What the reader answers
abbrev pub Fails : TraceFault → Result Sheet ℕ → Type 0
Fails faults.NoMemory read = Unit {0}
Fails (faults.Line n) read = read ≡ Err n

-- the same, or want of memory
abbrev pub Gives : Result Sheet TraceFault → Result Sheet ℕ → Type 0
Gives (Ok r) read = read ≡ Ok r
Gives (Err f) read = Fails f read

-- the fault in the words of the rule
abbrev pub IsNumber : List ℕ → TraceFault → Type 0
IsNumber bytes (faults.Line n) = IsFirstBad bytes n
IsNumber bytes faults.NoMemory = Unit {0}
