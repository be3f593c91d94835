-- What holds of all lines.
use Rattle.std.specs.Prelude.{◌≡◌, ℕ, List, Some, true}
use Rattle.ix_words.specs.Parts.{lacks}
use Rattle.ix_lines.specs.declared.line.Line.{Line}
use Rattle.ix_lines.specs.Words.{line_text, Fits}
use Rattle.ix_lines.specs.Read.{line_read}

-- what is written is read
abbrev pub IsReadAgain : Type 0
IsReadAgain = (l : Line) → Fits l → line_read (line_text l) ≡ Some l

-- what is read is written so
abbrev pub IsWrittenSo : Type 0
IsWrittenSo = (bytes : List ℕ) (l : Line) → line_read bytes ≡ Some l → (bytes ≡ line_text l) × Fits l

abbrev pub HasNoFeed : Type 0
HasNoFeed = (l : Line) → Fits l → lacks 10 (line_text l) ≡ true
