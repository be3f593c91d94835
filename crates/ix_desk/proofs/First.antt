-- The first element of a list that passes a test, where `position` puts it.
use Rattle.std.proofs.Common.{◌≡◌, ℕ, zero, suc, ◌+◌, ◌<◌, ◌≤◌, Bool, true, false, List, [], ◌∷◌, ◌++◌, length, get_or, take, drop, refl, ap, ◌∙◌, arith, Some, None}
use Rattle.std.specs.Prelude.{if◌then◌else◌, cond, not, nat_lt, position}
use Rattle.std.specs.List.{position_or_len}
use Rattle.std.proofs.lemmas.Bool.Decides.{nat_tests}
use Rattle.std.proofs.lemmas.List.Quantifiers.{position-Some}

module _ {X : Type 0} (test : X → Bool) where
  -- no element passes
  abbrev AllFail : List X → Type 0
  AllFail [] = Unit {0}
  AllFail (x ∷ xs) = (test x ≡ false) × AllFail xs

  all_fail : (xs : List X) → length xs ≤ position_or_len test xs → AllFail xs
  all_fail [] h = tt
  all_fail (x ∷ xs) h = by_test (test x) refl h (all_fail xs) where
    by_test : (b : Bool) → test x ≡ b → suc (length xs) ≤ cond (not b) (1 + position_or_len test xs) 0 → (length xs ≤ position_or_len test xs → AllFail xs) → (test x ≡ false) × AllFail xs
    by_test true e k rest = absurd (omega arith)
    by_test false e k rest = (e, rest (omega arith))

  none-fails : (xs : List X) → position test xs ≡ None → AllFail xs
  none-fails xs e = all_fail xs (by_test (nat_lt (position_or_len test xs) (length xs)) refl e) where
    by_test : (b : Bool) → nat_lt (position_or_len test xs) (length xs) ≡ b → cond b (Some (position_or_len test xs)) None ≡ None → length xs ≤ position_or_len test xs
    by_test true q r = absurd (cc)
    by_test false q r = grind (arith, nat_tests)

  -- a function that gives what it finds at the first that passes
  module _ {Y : Type 0} (find : List X → Y) (give : X → Y) (step : (x : X) (xs : List X) → find (x ∷ xs) ≡ (if test x then give x else find xs)) where
    found : (xs : List X) (i : ℕ) (d : X) → i < length xs → test (get_or xs i d) ≡ true → ((k : ℕ) → k < i → test (get_or xs k d) ≡ false) → find xs ≡ give (get_or xs i d)
    found [] i d lt pass fail = absurd (omega arith)
    found (x ∷ xs) zero d lt pass fail = step x xs ∙ rw pass refl
    found (x ∷ xs) (suc i) d lt pass fail =
        let first : test x ≡ false = fail 0 (omega arith) in
        step x xs ∙ (rw first (found xs i d (omega arith) pass (λ k l. fail (suc k) (omega arith))))

    pub found-at : (xs : List X) (i : ℕ) (d : X) → position test xs ≡ Some i → find xs ≡ give (get_or xs i d)
    found-at xs i d e = let at = position-Some test xs i d e in found xs i d at.0 at.1 at.2

    missing : (xs : List X) (y : Y) → find [] ≡ y → AllFail xs → find xs ≡ y
    missing [] y e f = e
    missing (x ∷ xs) y e f = step x xs ∙ rw f.0 (missing xs y e f.1)

    pub found-none : (xs : List X) (y : Y) → find [] ≡ y → position test xs ≡ None → find xs ≡ y
    found-none xs y e p = missing xs y e (none-fails xs p)

  -- a function that changes the first that passes
  module _ (change : List X → List X) (act : X → List X → List X) (step : (x : X) (xs : List X) → change (x ∷ xs) ≡ (if test x then act x xs else x ∷ change xs)) where
    changed : (xs : List X) (i : ℕ) (d : X) → i < length xs → test (get_or xs i d) ≡ true → ((k : ℕ) → k < i → test (get_or xs k d) ≡ false)
        → change xs ≡ take i xs ++ act (get_or xs i d) (drop (suc i) xs)
    changed [] i d lt pass fail = absurd (omega arith)
    changed (x ∷ xs) zero d lt pass fail = step x xs ∙ rw pass refl
    changed (x ∷ xs) (suc i) d lt pass fail =
        let first : test x ≡ false = fail 0 (omega arith) in
        step x xs ∙ (rw first (ap (λ z. x ∷ z) (changed xs i d (omega arith) pass (λ k l. fail (suc k) (omega arith)))))

    pub changed-at : (xs : List X) (i : ℕ) (d : X) → position test xs ≡ Some i → change xs ≡ take i xs ++ act (get_or xs i d) (drop (suc i) xs)
    changed-at xs i d e = let at = position-Some test xs i d e in changed xs i d at.0 at.1 at.2

    unchanged : (xs : List X) → change [] ≡ [] → AllFail xs → change xs ≡ xs
    unchanged [] e f = e
    unchanged (x ∷ xs) e f = step x xs ∙ rw f.0 (ap (λ z. x ∷ z) (unchanged xs e f.1))

    pub changed-none : (xs : List X) → change [] ≡ [] → position test xs ≡ None → change xs ≡ xs
    changed-none xs e p = unchanged xs e (none-fails xs p)

  pub within : (xs : List X) (i : ℕ) (d : X) → position test xs ≡ Some i → i < length xs
  within xs i d e = (position-Some test xs i d e).0

  pub passes : (xs : List X) (i : ℕ) (d : X) → position test xs ≡ Some i → test (get_or xs i d) ≡ true
  passes xs i d e = (position-Some test xs i d e).1
