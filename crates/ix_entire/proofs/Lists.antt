-- Lists and sums, place by place.
use Rattle.std.proofs.Common.{◌≡◌, ◌≢◌, ◌+◌, ◌<◌, ◌≤◌, ◌⊎◌, ◌==◌, ◌&&◌, ℕ, zero, suc, Bool, true, false, List, [], ◌∷◌, ◌++◌, length, get_or, sum_by, refl, ap, ◌∙◌, arith, eq-eqb, inl, inr}
use Rattle.std.specs.List.{AllByRecursion, list_all}
use Rattle.std.proofs.lemmas.List.Sums.{sum_by-append, sum_by-cons}
use Rattle.ix_mbuf.specs.Buffers.{Buffer, buffers_weight}
use Rattle.ix_mbuf.specs.declared.name.Name.{Name}
use Rattle.ix_desk.specs.Pieces.{joined}

-- some element of a list that isn't empty
pub an-element : {X : Type 0} (xs : List X) (k : ℕ) → k < length xs → X
an-element [] k lt = absurd (omega (arith, lt))
an-element (x ∷ xs) k lt = x

-- what holds of each element of two lists holds of those of the second
pub behind : {X : Type 0} (P : X → Type 0) (xs ys : List X) → AllByRecursion P (xs ++ ys) → AllByRecursion P ys
behind P [] ys all = all
behind P (x ∷ xs) ys all = behind P xs ys all.1

pub in-front : {X : Type 0} (P : X → Type 0) (xs ys : List X) → AllByRecursion P (xs ++ ys) → AllByRecursion P xs
in-front P [] ys all = tt
in-front P (x ∷ xs) ys all = (all.0, in-front P xs ys all.1)

pub joined-none : {X Y : Type 0} (f : X → List Y) (xs : List X) (d : X) → ((k : ℕ) → k < length xs → f (get_or xs k d) ≡ []) → joined f xs ≡ []
joined-none f [] d none = refl
joined-none f (x ∷ xs) d none = ap (λ z. z ++ joined f xs) (none 0 (omega arith)) ∙ joined-none f xs d (λ k lt. none (suc k) (omega (arith, lt)))

pub le-or-lt : (a b : ℕ) → (a ≤ b) ⊎ (b < a)
le-or-lt zero b = inl (omega arith)
le-or-lt (suc a) zero = inr (omega arith)
le-or-lt (suc a) (suc b) = elim (le-or-lt a b) [
  | inl low ↦ inl (omega (arith, low))
  | inr high ↦ inr (omega (arith, high))
]

-- ## Tests
pub both : (a b : Bool) → a ≡ true → b ≡ true → (a && b) ≡ true
both true true e f = refl
both true false e f = f
both false b e f = e

pub all-are : (n : ℕ) (xs : List ℕ) → ((k d : ℕ) → k < length xs → get_or xs k d ≡ n) → list_all (λ x. x == n) xs ≡ true
all-are n [] each = refl
all-are n (x ∷ xs) each = both (x == n) (list_all (λ y. y == n) xs) (eq-eqb x n (each 0 n (omega arith))) (all-are n xs (λ k d lt. each (suc k) d (omega (arith, lt))))

-- ## Sums
pub sums-same : {X : Type 0} (w : X → ℕ) (xs ys : List X) → length ys ≡ length xs → ((k : ℕ) (d : X) → k < length xs → w (get_or ys k d) ≡ w (get_or xs k d)) → sum_by w ys ≡ sum_by w xs
sums-same w [] [] len each = refl
sums-same w [] (y ∷ ys) len each = absurd (omega (arith, len))
sums-same w (x ∷ xs) [] len each = absurd (omega (arith, len))
sums-same w (x ∷ xs) (y ∷ ys) len each =
    omega (arith, sum_by-cons w x xs, sum_by-cons w y ys, each 0 x (omega arith), sums-same w xs ys (omega (arith, len)) (λ k d lt. each (suc k) d (omega (arith, lt))))

pub sums-equal : {X : Type 0} (w v : X → ℕ) (xs : List X) → ((k : ℕ) (d : X) → k < length xs → v (get_or xs k d) ≡ w (get_or xs k d)) → sum_by v xs ≡ sum_by w xs
sums-equal w v [] each = refl
sums-equal w v (x ∷ xs) each = omega (arith, sum_by-cons w x xs, sum_by-cons v x xs, each 0 x (omega arith), sums-equal w v xs (λ k d lt. each (suc k) d (omega (arith, lt))))

-- each element weighs what two parts of it weigh
pub sums-split : {X : Type 0} (w a b : X → ℕ) (xs : List X) → ((k : ℕ) (d : X) → k < length xs → w (get_or xs k d) ≡ a (get_or xs k d) + b (get_or xs k d)) → sum_by w xs ≡ sum_by a xs + sum_by b xs
sums-split w a b [] each = refl
sums-split w a b (x ∷ xs) each =
    omega (arith, sum_by-cons w x xs, sum_by-cons a x xs, sum_by-cons b x xs, each 0 x (omega arith), sums-split w a b xs (λ k d lt. each (suc k) d (omega (arith, lt))))

pub sums-none : {X : Type 0} (w : X → ℕ) (xs : List X) → ((k : ℕ) (d : X) → k < length xs → w (get_or xs k d) ≡ 0) → sum_by w xs ≡ 0
sums-none w [] off = refl
sums-none w (x ∷ xs) off = omega (arith, sum_by-cons w x xs, off 0 x (omega arith), sums-none w xs (λ k d lt. off (suc k) d (omega (arith, lt))))

-- a sum of which one term counts alone
pub sums-one : {X : Type 0} (w : X → ℕ) (xs : List X) (c : ℕ) (d : X) (n : ℕ) → c < length xs → w (get_or xs c d) ≡ n → ((k : ℕ) (e : X) → k < length xs → k ≢ c → w (get_or xs k e) ≡ 0) → sum_by w xs ≡ n
sums-one w [] c d n lt here off = absurd (omega (arith, lt))
sums-one w (x ∷ xs) zero d n lt here off =
    omega (arith, here, sum_by-cons w x xs, sums-none w xs (λ k e h. off (suc k) e (omega (arith, h)) (λ is. omega (arith, is))))
sums-one w (x ∷ xs) (suc c) d n lt here off =
    omega (arith, sum_by-cons w x xs, off 0 x (omega arith) (λ is. omega (arith, is)), sums-one w xs c d n (omega (arith, lt)) here (λ k e h apart. off (suc k) e (omega (arith, h)) (λ is. apart (omega (arith, is)))))

-- what lists of buffers weigh, one behind the other
pub joined-weighs : {X : Type 0} (f : Name → ℕ) (bufs : X → List Buffer) (xs : List X) → buffers_weight f (joined bufs xs) ≡ sum_by (λ x. buffers_weight f (bufs x)) xs
joined-weighs f bufs [] = refl
joined-weighs f bufs (x ∷ xs) =
    omega (arith, sum_by-append (λ (b : Buffer). f b.name) (bufs x) (joined bufs xs), joined-weighs f bufs xs, sum_by-cons (λ y. buffers_weight f (bufs y)) x xs)

-- the first elements of a list, added up place by place
abbrev pub sum-below : {X : Type 0} → (X → ℕ) → ℕ → List X → X → ℕ
sum-below w zero xs d = 0
sum-below w (suc n) xs d = sum-below w n xs d + w (get_or xs n d)

below-cons : {X : Type 0} (w : X → ℕ) (n : ℕ) (x : X) (xs : List X) (d : X) → sum-below w (suc n) (x ∷ xs) d ≡ w x + sum-below w n xs d
below-cons w zero x xs d = omega arith
below-cons w (suc n) x xs d = omega (arith, below-cons w n x xs d)

pub below-all : {X : Type 0} (w : X → ℕ) (xs : List X) (d : X) → sum-below w (length xs) xs d ≡ sum_by w xs
below-all w [] d = refl
below-all w (x ∷ xs) d = omega (arith, below-cons w (length xs) x xs d, below-all w xs d, sum_by-cons w x xs)
