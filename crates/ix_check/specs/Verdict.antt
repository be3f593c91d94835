-- What is answered about the five files of a play: docs/CHECK.md.
use Rattle.std.specs.Prelude.{◌≡◌, ℕ, Bool, true, false, List, Option, Some, None}
use Rattle.ix_conf.specs.Settings.{Settings}
use Rattle.ix_trace.specs.declared.sheet.Sheet.{Sheet}
use Rattle.ix_trace.specs.Rule.{IsFirstBad, IsValue, report_text}
use Rattle.ix_wire.specs.declared.entry.Entry.{Entry}
use Rattle.ix_fits.specs.Fits.{Fits}
use Rattle.ix_decide.specs.Answer.{IsFirstTold}
use Rattle.ix_decide.specs.declared.points.Point.{Point}
use Rattle.ix_decide.specs.declared.points.Point.TheVariants.{Card, Connections, Groups, Replies}
use Rattle.ix_check.specs.declared.verdict.Finding.{Finding}
use Rattle.ix_check.specs.declared.verdict.Finding.TheVariants as findings
use Rattle.ix_check.specs.declared.verdict.Verdict.{Verdict}
use Rattle.ix_check.specs.declared.verdict.Verdict.TheVariants.{Yes, No}

-- A text is that of a report which fits these settings, frames and entries, with this file of replies.
pub record Fit (s : Settings) (frames : List (List ℕ)) (entries : List Entry) (replies trace : List ℕ) : Type 0 where
  pub report : Sheet
  pub value : IsValue report
  pub text : trace ≡ report_text report
  pub fits : Fits s frames entries report replies

-- ## What fails
-- No report has this text; its first bad line is the one of this number.
pub record TextFails (trace : List ℕ) (line : ℕ) : Type 0 where
  pub first : IsFirstBad trace line
  pub none : (r : Sheet) → IsValue r → trace ≡ report_text r → ⊥

-- A report has the text, and this point is the first that fails for it, in the cycles that its own lines tell: it fits in no others.
pub record PointFails (s : Settings) (frames : List (List ℕ)) (entries : List Entry) (replies trace : List ℕ) (point : Point) : Type 0 where
  pub report : Sheet
  pub value : IsValue report
  pub text : trace ≡ report_text report
  pub first : IsFirstTold (Some point) s frames entries report replies
  pub never : Fits s frames entries report replies → ⊥

abbrev pub number_of : Point → ℕ
number_of Card = 1
number_of Groups = 2
number_of Connections = 3
number_of Replies = 4

pub record NumberFails (s : Settings) (frames : List (List ℕ)) (entries : List Entry) (replies trace : List ℕ) (number : ℕ) : Type 0 where
  pub point : Point
  pub number_is : number ≡ number_of point
  pub fails : PointFails s frames entries replies trace point

abbrev pub IsFound : Settings → List (List ℕ) → List Entry → List ℕ → List ℕ → Finding → Type 0
IsFound s frames entries replies trace (findings.Text line) = TextFails trace line
IsFound s frames entries replies trace (findings.Point number) = NumberFails s frames entries replies trace number

-- ## The answer
abbrev pub IsVerdict : Settings → List (List ℕ) → List Entry → List ℕ → List ℕ → Verdict → Type 0
IsVerdict s frames entries replies trace Yes = Fit s frames entries replies trace
IsVerdict s frames entries replies trace (No finding) = IsFound s frames entries replies trace finding

-- the verdict on a report of which this point fails first, or none
abbrev pub verdict_of : Option Point → Verdict
verdict_of None = Yes
verdict_of (Some p) = No (findings.Point (number_of p))

abbrev pub is_yes : Verdict → Bool
is_yes Yes = true
is_yes (No finding) = false
