-- Sums over cores and groups.
use Rattle.std.proofs.Common.{◌≡◌, ℕ, suc, zero, ◌+◌, ◌<◌, ◌≤◌, Bool, true, false, List, [], ◌∷◌, get_or, length, refl, sym, ap, ◌∙◌, arith}
use Rattle.std.specs.Prelude.{◌==◌, sum_by}
use Rattle.std.specs.List.{range_with_len}
use Rattle.std.proofs.lemmas.Bool.Decides.{nat_tests}
use Rattle.std.proofs.lemmas.List.Sums.{sum_by-append, sum_by-cons}
use Rattle.ix_desk.specs.Pieces.{joined}

-- the numbers of n places, from one on, added up
pub total : (ℕ → ℕ) → ℕ → ℕ → ℕ
total h s zero = 0
total h s (suc n) = h s + total h (suc s) n

pub sum-range : (h : ℕ → ℕ) (s n : ℕ) → sum_by h (range_with_len s n) ≡ total h s n
unfolding total
sum-range h s zero = refl
sum-range h s (suc n) =
    let next : s + 1 ≡ suc s = omega arith in
    sum_by-cons h s (range_with_len (s + 1) n) ∙ ap (λ m. h s + sum_by h (range_with_len m n)) next ∙ ap (λ m. h s + m) (sum-range h (suc s) n)

pub total-same : (h k : ℕ → ℕ) (s n : ℕ) → ((i : ℕ) → s ≤ i → i < s + n → h i ≡ k i) → total h s n ≡ total k s n
unfolding total
total-same h k s zero f = refl
total-same h k s (suc n) f =
    let rest = total-same h k (suc s) n (λ i low high. f i (omega (arith, low)) (omega (arith, high))) in
    let first = f s (omega arith) (omega arith) in
    omega (arith, rest, first)

pub total-less : (h k : ℕ → ℕ) (s n : ℕ) → ((i : ℕ) → s ≤ i → i < s + n → h i ≤ k i) → total h s n ≤ total k s n
unfolding total
total-less h k s zero f = omega arith
total-less h k s (suc n) f =
    let rest = total-less h k (suc s) n (λ i low high. f i (omega (arith, low)) (omega (arith, high))) in
    let first = f s (omega arith) (omega arith) in
    omega (arith, rest, first)

pub total-none : (h : ℕ → ℕ) (s n : ℕ) → ((i : ℕ) → s ≤ i → i < s + n → h i ≡ 0) → total h s n ≡ 0
unfolding total
total-none h s zero f = refl
total-none h s (suc n) f =
    let rest = total-none h (suc s) n (λ i low high. f i (omega (arith, low)) (omega (arith, high))) in
    let first = f s (omega arith) (omega arith) in
    omega (arith, rest, first)

total-plus : (h k : ℕ → ℕ) (s n : ℕ) → total (λ i. h i + k i) s n ≡ total h s n + total k s n
unfolding total
total-plus h k s zero = refl
total-plus h k s (suc n) = let rest = total-plus h k (suc s) n in omega (arith, rest)

-- over cores of all groups, and over groups of all cores
pub total-swap : (h : ℕ → ℕ → ℕ) (s n t m : ℕ) → total (λ c. total (λ g. h c g) t m) s n ≡ total (λ g. total (λ c. h c g) s n) t m
unfolding total
total-swap h s zero t m = sym (total-none (λ g. 0) t m (λ i low high. refl))
total-swap h s (suc n) t m = ap (λ z. total (λ g. h s g) t m + z) (total-swap h (suc s) n t m) ∙ sym (total-plus (λ g. h s g) (λ g. total (λ c. h c g) (suc s) n) t m)

-- only one of them is not nothing
pub total-one : (h : ℕ → ℕ) (s n c : ℕ) → s ≤ c → c < s + n → ((i : ℕ) → s ≤ i → i < s + n → (i ≡ c → ⊥) → h i ≡ 0) → total h s n ≡ h c
unfolding total
total-one h s zero c low high f = absurd (omega (arith, low, high))
total-one h s (suc n) c low high f =
    by_place (s == c) refl (λ far. total-one h (suc s) n c far (omega (arith, high)) (λ i below above other. f i (omega (arith, below)) (omega (arith, above)) other))
  where
    by_place : (q : Bool) → (s == c) ≡ q → (suc s ≤ c → total h (suc s) n ≡ h c) → total h s (suc n) ≡ h c
    by_place true e further =
        let same : s ≡ c = grind (arith, nat_tests) in
        let rest = total-none h (suc s) n (λ i below above. f i (omega (arith, below)) (omega (arith, above)) (λ at. omega (arith, at, same, below))) in
        let first = ap h same in
        omega (arith, rest, first)
    by_place false e further =
        let other : s ≡ c → ⊥ = λ same. (let test : (s == c) ≡ true = grind (arith, nat_tests) in absurd (cc)) in
        let far = past s c low other in
        let rest = further far in
        let first = f s (omega arith) (omega arith) other in
        omega (arith, rest, first)
      where
        past : (s c : ℕ) → s ≤ c → (s ≡ c → ⊥) → suc s ≤ c
        past s c low other = grind arith

-- a list by its places
pub sum-places : {X : Type 0} (f : X → ℕ) (xs : List X) (d : X) (h : ℕ → ℕ) (s : ℕ) → ((i : ℕ) → i < length xs → h (s + i) ≡ f (get_or xs i d)) → sum_by f xs ≡ total h s (length xs)
unfolding total
sum-places f [] d h s at = refl
sum-places f (x ∷ xs) d h s at =
    let first : h s ≡ f x = (let zero_more : s + 0 ≡ s = omega arith in ap h (sym zero_more) ∙ at 0 (omega arith)) in
    let rest = sum-places f xs d h (suc s) (λ i lt. (let next : suc s + i ≡ s + suc i = omega arith in ap h next ∙ at (suc i) (omega (arith, lt)))) in
    sum_by-cons f x xs ∙ omega (arith, first, rest)

pub sum-joined : {X I : Type 0} (w : I → ℕ) (f : X → List I) (xs : List X) → sum_by w (joined f xs) ≡ sum_by (λ x. sum_by w (f x)) xs
sum-joined w f [] = refl
sum-joined w f (x ∷ xs) = sum_by-append w (f x) (joined f xs) ∙ ap (λ n. sum_by w (f x) + n) (sum-joined w f xs) ∙ sym (sum_by-cons (λ z. sum_by w (f z)) x xs)
