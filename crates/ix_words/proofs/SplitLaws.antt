-- The first part of a text.
use Rattle.std.proofs.Common.{◌≡◌, ◌≢◌, ℕ, zero, suc, ◌+◌, ◌-◌, ◌<◌, List, [], ◌∷◌, length, get_or, take, drop, refl, ap, ◌∙◌, arith}
use Rattle.std.specs.Prelude.{if◌then◌else◌, ◌==◌}
use Rattle.std.proofs.lemmas.Bool.Decides.{nat_tests}
use Rattle.std.proofs.lemmas.List.{take_rest}
use Rattle.ix_words.specs.Parts.{parts, push_front}

-- no mark stands before a place
abbrev pub NoMark : ℕ → List ℕ → ℕ → Type 0
NoMark mark bytes n = (k : ℕ) → k < n → get_or bytes k 0 ≢ mark

at_mark : (mark b : ℕ) (x y : List (List ℕ)) → b ≡ mark → (if b == mark then x else y) ≡ x
at_mark mark b x y h = grind (arith, nat_tests)

at_other : (mark b : ℕ) (x y : List (List ℕ)) → b ≢ mark → (if b == mark then x else y) ≡ y
at_other mark b x y h = grind (arith, nat_tests)

pub parts-last : (mark : ℕ) (bytes : List ℕ) → NoMark mark bytes (length bytes) → parts mark bytes ≡ bytes ∷ []
parts-last mark [] none = refl
parts-last mark (b ∷ bs) none =
    at_other mark b _ _ (none 0 (omega arith)) ∙ ap (push_front b) (parts-last mark bs (λ k l. none (suc k) (omega arith)))

parts-at : (mark : ℕ) (bytes : List ℕ) (i : ℕ) → i < length bytes → get_or bytes i 0 ≡ mark → NoMark mark bytes i
    → parts mark bytes ≡ take i bytes ∷ parts mark (drop (i + 1) bytes)
parts-at mark [] i h e none = absurd (omega arith)
parts-at mark (b ∷ bs) zero h e none = at_mark mark b _ _ e
parts-at mark (b ∷ bs) (suc i) h e none =
    at_other mark b _ _ (none 0 (omega arith))
    ∙ ap (push_front b) (parts-at mark bs i (omega arith) e (λ k l. none (suc k) (omega arith)))
    ∙ ap (λ j. (b ∷ take i bs) ∷ parts mark (drop j (b ∷ bs))) (let e : suc (i + 1) ≡ suc i + 1 = omega arith in e)

pub split_at_mark : (mark : ℕ) (bytes : List ℕ) (i : ℕ) → i < length bytes → get_or bytes i 0 ≡ mark → NoMark mark bytes i
    → parts mark bytes ≡ take i bytes ∷ parts mark (take (length bytes - (i + 1)) (drop (i + 1) bytes))
split_at_mark mark bytes i h e none = rw (take_rest bytes (i + 1)) (parts-at mark bytes i h e none)

pub ruleset part_steps = (parts-last, split_at_mark)
