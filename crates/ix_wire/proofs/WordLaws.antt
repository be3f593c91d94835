-- The first word of a line.
use Rattle.std.proofs.Common.{◌≡◌, ◌≢◌, ℕ, zero, suc, ◌+◌, ◌-◌, ◌<◌, List, [], ◌∷◌, length, get_or, take, drop, refl, ap, ◌∙◌, arith}
use Rattle.std.specs.Prelude.{if◌then◌else◌, ◌==◌}
use Rattle.std.proofs.lemmas.Bool.Decides.{nat_tests}
use Rattle.std.proofs.lemmas.List.{take_rest}
use Rattle.ix_wire.specs.Text.{words_of, push_front}

-- no blank stands before a place
abbrev pub NoBlank : List ℕ → ℕ → Type 0
NoBlank bytes n = (k : ℕ) → k < n → get_or bytes k 0 ≢ 32

at_blank : (b : ℕ) (x y : List (List ℕ)) → b ≡ 32 → (if b == 32 then x else y) ≡ x
at_blank b x y h = grind (arith, nat_tests)

at_other : (b : ℕ) (x y : List (List ℕ)) → b ≢ 32 → (if b == 32 then x else y) ≡ y
at_other b x y h = grind (arith, nat_tests)

pub words_of-last : (bytes : List ℕ) → NoBlank bytes (length bytes) → words_of bytes ≡ bytes ∷ []
words_of-last [] none = refl
words_of-last (b ∷ bs) none =
    at_other b _ _ (none 0 (omega arith)) ∙ ap (push_front b) (words_of-last bs (λ k l. none (suc k) (omega arith)))

words_of-blank : (bytes : List ℕ) (i : ℕ) → i < length bytes → get_or bytes i 0 ≡ 32 → NoBlank bytes i
    → words_of bytes ≡ take i bytes ∷ words_of (drop (i + 1) bytes)
words_of-blank [] i h blank none = absurd (omega arith)
words_of-blank (b ∷ bs) zero h blank none = at_blank b _ _ blank
words_of-blank (b ∷ bs) (suc i) h blank none =
    at_other b _ _ (none 0 (omega arith))
    ∙ ap (push_front b) (words_of-blank bs i (omega arith) blank (λ k l. none (suc k) (omega arith)))
    ∙ ap (λ j. (b ∷ take i bs) ∷ words_of (drop j (b ∷ bs))) (let e : suc (i + 1) ≡ suc i + 1 = omega arith in e)

pub split_at_blank : (bytes : List ℕ) (i : ℕ) → i < length bytes → get_or bytes i 0 ≡ 32 → NoBlank bytes i
    → words_of bytes ≡ take i bytes ∷ words_of (take (length bytes - (i + 1)) (drop (i + 1) bytes))
split_at_blank bytes i h blank none = rw (take_rest bytes (i + 1)) (words_of-blank bytes i h blank none)

pub ruleset word_steps = (words_of-last, split_at_blank)
