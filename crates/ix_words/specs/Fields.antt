-- The words of a line, one after the other.
use Rattle.std.specs.Prelude.{ℕ, ◌+◌, ◌*◌, ◌/◌, ◌%◌, List, [], ◌∷◌, Option, Some, None, if◌then◌else◌}
use Rattle.std.specs.Str.{bytes_eq}
use Rattle.std.specs.Fmt.{decimal}
use Rattle.ix_words.specs.Parts.{parts, join}
use Rattle.ix_words.specs.Numbers.{number_of}

infixl 10 ◌>>=◌
abbrev pub ◌>>=◌ : {A B : Type 0} → Option A → (A → Option B) → Option B
None >>= f = None
(Some x) >>= f = f x

-- what stands behind a given word
abbrev pub behind_word : List ℕ → List (List ℕ) → Option (List (List ℕ))
behind_word k [] = None
behind_word k (w ∷ ws) = if bytes_eq w k then Some ws else None

abbrev pub with_rest : {A : Type 0} → List (List ℕ) → Option A → Option (A × List (List ℕ))
with_rest ws None = None
with_rest ws (Some a) = Some (a, ws)

-- what a word means, and the words behind it
abbrev pub field_of : {A : Type 0} → (List ℕ → Option A) → List (List ℕ) → Option (A × List (List ℕ))
field_of read [] = None
field_of read (w ∷ ws) = with_rest ws (read w)

-- what a word means behind its name, and the words behind it
abbrev pub named_field : {A : Type 0} → List ℕ → (List ℕ → Option A) → List (List ℕ) → Option (A × List (List ℕ))
named_field name read ws = behind_word name ws >>= field_of read

-- no word is left
abbrev pub ended : List (List ℕ) → Option (Unit {0})
ended [] = Some tt
ended (w ∷ ws) = None

-- a value, where no word is left
abbrev pub at_end : {A : Type 0} → List (List ℕ) → A → Option A
at_end ws x = ended ws >>= (λ _. Some x)

-- an address: four numbers with points between
unfoldable pub dotted : ℕ → List ℕ
dotted a = join 46 (decimal (a / 16777216) ∷ decimal (a / 65536 % 256) ∷ decimal (a / 256 % 256) ∷ decimal (a % 256) ∷ [])

unfoldable pub four_of : List (List ℕ) → Option ℕ
four_of ws = do
  a ← field_of (number_of 255) ws
  b ← field_of (number_of 255) a.1
  c ← field_of (number_of 255) b.1
  d ← field_of (number_of 255) c.1
  at_end d.1 (16777216 * a.0 + 65536 * b.0 + 256 * c.0 + d.0)

abbrev pub dotted_of : List ℕ → Option ℕ
dotted_of w = four_of (parts 46 w)

-- a place: two numbers with a point between
unfoldable pub place : ℕ × ℕ → List ℕ
place p = join 46 (decimal p.0 ∷ decimal p.1 ∷ [])

unfoldable pub two_of : ℕ → ℕ → List (List ℕ) → Option (ℕ × ℕ)
two_of high low ws = do
  a ← field_of (number_of high) ws
  b ← field_of (number_of low) a.1
  at_end b.1 (a.0, b.0)

abbrev pub place_of : ℕ → ℕ → List ℕ → Option (ℕ × ℕ)
place_of high low w = two_of high low (parts 46 w)
