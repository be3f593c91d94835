-- The first line of a text.
use Rattle.std.proofs.Common.{◌≡◌, ◌≢◌, ℕ, zero, suc, ◌+◌, ◌-◌, ◌<◌, List, [], ◌∷◌, length, get_or, take, drop, refl, ap, ◌∙◌, arith}
use Rattle.std.specs.Prelude.{if◌then◌else◌, ◌==◌, ◌&&◌}
use Rattle.std.proofs.lemmas.Bool.Decides.{nat_tests}
use Rattle.std.proofs.lemmas.List.{take_rest}
use native.Mathlib.Numerals.{unary_clauses}
use Rattle.ix_wire.specs.Text.{NoFeed, lines_of, push_front}

-- the three ways in which a text begins
at_feed : (b c : ℕ) (x y z : List (List ℕ)) → b ≡ 10 → (if b == 10 then x else if b == 13 && c == 10 then y else z) ≡ x
at_feed b c x y z h = grind (arith, nat_tests)

at_return : (b c : ℕ) (x y z : List (List ℕ)) → b ≡ 13 → c ≡ 10 → (if b == 10 then x else if b == 13 && c == 10 then y else z) ≡ y
at_return b c x y z h k = grind (arith, nat_tests)

at_other : (b c : ℕ) (x y z : List (List ℕ)) → b ≢ 10 → (b ≡ 13 → c ≢ 10) → (if b == 10 then x else if b == 13 && c == 10 then y else z) ≡ z
at_other b c x y z h k = grind (arith, nat_tests)

pub lines_of-last : (bytes : List ℕ) → 0 < length bytes → NoFeed bytes (length bytes) → lines_of bytes ≡ bytes ∷ []
lines_of-last [] h none = absurd (omega arith)
lines_of-last (b ∷ []) h none = at_other b 0 _ _ _ (none 0 (omega arith)) (λ e. λ f. omega arith)
lines_of-last (b ∷ c ∷ bs) h none =
    at_other b c _ _ _ (none 0 (omega arith)) (λ e. none 1 (omega arith))
    ∙ ap (push_front b) (lines_of-last (c ∷ bs) (omega arith) (λ k l. none (suc k) (omega arith)))

-- a line that ends at a line feed, with no carriage return before it
pub lines_of-feed : (bytes : List ℕ) (i : ℕ) → i < length bytes → get_or bytes i 0 ≡ 10 → NoFeed bytes i
    → (0 < i → get_or bytes (i - 1) 0 ≢ 13) → lines_of bytes ≡ take i bytes ∷ lines_of (drop (i + 1) bytes)
lines_of-feed [] i h feed none bare = absurd (omega arith)
lines_of-feed (b ∷ bs) zero h feed none bare = at_feed b _ _ _ _ feed
lines_of-feed (b ∷ bs) (suc i) h feed none bare =
    at_other b (get_or bs 0 0) _ _ _ (none 0 (omega arith)) (not_end i bare none)
    ∙ ap (push_front b) (lines_of-feed bs i (omega arith) feed (λ k l. none (suc k) (omega arith)) (λ pos. later i bare pos))
    ∙ ap (λ j. (b ∷ take i bs) ∷ lines_of (drop j (b ∷ bs))) (let e : suc (i + 1) ≡ suc i + 1 = omega arith in e) where
      not_end : (i : ℕ) → (0 < suc i → get_or (b ∷ bs) (suc i - 1) 0 ≢ 13) → NoFeed (b ∷ bs) (suc i) → b ≡ 13 → get_or bs 0 0 ≢ 10
      not_end zero bare none e = λ f. bare (omega arith) e
      not_end (suc i) bare none e = none 1 (omega arith)

      later : (i : ℕ) → (0 < suc i → get_or (b ∷ bs) (suc i - 1) 0 ≢ 13) → 0 < i → get_or bs (i - 1) 0 ≢ 13
      later zero bare pos = absurd (omega arith)
      later (suc i) bare pos = simp unary_clauses (simp unary_clauses at (bare (omega arith)))

-- a line that ends at a carriage return and a line feed
pub lines_of-return : (bytes : List ℕ) (i : ℕ) → suc i < length bytes → get_or bytes (suc i) 0 ≡ 10 → get_or bytes i 0 ≡ 13 → NoFeed bytes (suc i)
    → lines_of bytes ≡ take i bytes ∷ lines_of (drop (i + 2) bytes)
lines_of-return [] i h feed ret none = absurd (omega arith)
lines_of-return (b ∷ []) i h feed ret none = absurd (omega arith)
lines_of-return (b ∷ c ∷ bs) zero h feed ret none = at_return b c _ _ _ ret feed ∙ at_feed c _ _ _ _ feed
lines_of-return (b ∷ c ∷ bs) (suc i) h feed ret none =
    at_other b c _ _ _ (none 0 (omega arith)) (λ e. none 1 (omega arith))
    ∙ ap (push_front b) (lines_of-return (c ∷ bs) i (omega arith) feed ret (λ k l. none (suc k) (omega arith)))
    ∙ ap (λ j. (b ∷ take i (c ∷ bs)) ∷ lines_of (drop j (b ∷ c ∷ bs))) (let e : suc (i + 2) ≡ suc i + 2 = omega arith in e)

-- the same with what the code computes: `rest` is the slice behind the line feed
pub split_at_feed : (bytes : List ℕ) (i : ℕ) → i < length bytes → get_or bytes i 0 ≡ 10 → NoFeed bytes i
    → (0 < i → get_or bytes (i - 1) 0 ≢ 13) → lines_of bytes ≡ take i bytes ∷ lines_of (take (length bytes - (i + 1)) (drop (i + 1) bytes))
split_at_feed bytes i h feed none bare = rw (take_rest bytes (i + 1)) (lines_of-feed bytes i h feed none bare)

pub split_at_return : (bytes : List ℕ) (i : ℕ) → 0 < i → i < length bytes → get_or bytes i 0 ≡ 10 → get_or bytes (i - 1) 0 ≡ 13 → NoFeed bytes i
    → lines_of bytes ≡ take (i - 1) bytes ∷ lines_of (take (length bytes - (i + 1)) (drop (i + 1) bytes))
split_at_return bytes zero pos h feed ret none = absurd (omega arith)
split_at_return bytes (suc i) pos h feed ret none =
    rw (take_rest bytes (suc i + 1)) (simp unary_clauses (simp unary_clauses at (lines_of-return bytes i h feed (simp unary_clauses at ret) none)))

pub ruleset line_steps = (lines_of-last, split_at_feed, split_at_return)

pub no_lines : (bytes : List ℕ) → length bytes ≡ 0 → lines_of bytes ≡ []
no_lines [] h = refl
no_lines (b ∷ bs) h = absurd (omega arith)
