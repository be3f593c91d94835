-- Digits to the base 16, one more at the end.
use Rattle.std.proofs.Common.{◌≡◌, ℕ, zero, suc, ◌-◌, ◌/◌, ◌%◌, ◌<◌, List, [], ◌∷◌, ◌++◌, sym, arith, append_assoc}
use native.Mathlib.Numerals.{unary_clauses}
use Rattle.std.proofs.lemmas.List.{append-nil}
use Rattle.ix_words.specs.Numbers.{glyph, hex}

pub more_hex : (old : List ℕ) (k n : ℕ) → 0 < k → (old ++ hex (k - 1) (n / 16)) ++ glyph (n % 16) ∷ [] ≡ old ++ hex k n
more_hex old zero n h = absurd (omega arith)
more_hex old (suc k) n h = simp unary_clauses (append_assoc old (hex k (n / 16)) (glyph (n % 16) ∷ []))

pub no_hex : (old : List ℕ) (k n : ℕ) → k ≡ 0 → old ≡ old ++ hex k n
no_hex old k n h = rw h (sym (append-nil old))

pub ruleset hex_steps = (more_hex, no_hex)
