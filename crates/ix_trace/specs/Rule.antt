-- A report's text, and the rule of the first bad line.
use Rattle.std.specs.Prelude.{◌≡◌, ℕ, ◌+◌, List, [], ◌∷◌, ◌++◌, length, map}
use Rattle.std.specs.List.{AllByRecursion}
use Rattle.ix_words.specs.Parts.{parts}
use Rattle.ix_lines.specs.Words.{Fits, line_text, text_of}
use Rattle.ix_trace.specs.declared.sheet.Sheet.{Sheet}
use Rattle.ix_trace.specs.Sheet.{sheet_lines, IsReport}

-- what each report keeps: its facts, that each number fits its type, and that each group is one of 512
pub record IsValue (s : Sheet) : Type 0 where
  pub report : IsReport s
  pub fits : AllByRecursion Fits (sheet_lines s)

abbrev pub report_text : Sheet → List ℕ
report_text s = text_of (sheet_lines s)

abbrev pub report_lines : Sheet → List (List ℕ)
report_lines s = map line_text (sheet_lines s)

-- these lines, each with its line feed, are a prefix of a report's text
pub record IsPrefix (good : List (List ℕ)) : Type 0 where
  pub sheet : Sheet
  pub more : List (List ℕ)
  pub value : IsValue sheet
  pub whole : report_lines sheet ≡ good ++ more

-- What stands behind the good lines, as parts by the line feed. The last part is what stands behind the last line feed:
-- where it is empty, the good lines are all lines, and no whole text; where it is not, it is a line that lacks its line feed.
abbrev pub Stops : List (List ℕ) → List (List ℕ) → Type 0
Stops good [] = ⊥
Stops good (last ∷ []) = last ≡ [] → (s : Sheet) → IsValue s → report_lines s ≡ good → ⊥
Stops good (line ∷ next ∷ rest) = IsPrefix (good ++ line ∷ []) → ⊥

-- The least n for which the first n lines are no prefix of a report's text, where a last line without its line feed makes all lines
-- together none; and where there is no such n, one more than there are lines.
pub record IsFirstBad (bytes : List ℕ) (n : ℕ) : Type 0 where
  pub good : List (List ℕ)
  pub rest : List (List ℕ)
  pub all : parts 10 bytes ≡ good ++ rest
  pub number : n ≡ length good + 1
  pub begins : IsPrefix good
  pub bad : Stops good rest
