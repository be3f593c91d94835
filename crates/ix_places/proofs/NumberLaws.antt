-- The numbers that lines name, line by line.
use Rattle.std.proofs.Common.{◌≡◌, ℕ, zero, suc, ◌+◌, ◌-◌, ◌<◌, ◌≤◌, refl, sym, ap, ◌∙◌, subst, Bool, true, false, List, [], ◌∷◌, ◌++◌, append_assoc, append-nil, ext_get_or, get_or, length, drop, take, arith}
use Rattle.std.specs.Prelude.{filter, if◌then◌else◌, All, ◌==◌}
use Rattle.std.specs.Bool.{Decides}
use Rattle.std.specs.List.{IsDistinct, flat_map, range_with_len}
use Rattle.std.specs.List.Sorted.{IsNonDecreasing, IsPermutation, IsSorted, IsStrictlyIncreasing}
use Rattle.std.specs.Ordering.{nat_cmp}
use Rattle.std.specs.Cmp.{nat_eq_equiv}
use Rattle.std.proofs.lemmas.Bool.{ne_eqb}
use Rattle.std.proofs.lemmas.List.{drop_all, drop_more, take_all, take_more_same}
use Rattle.std.proofs.lemmas.List.FromFn.{get_or-range_with_len, length-range_with_len}
use Rattle.std.proofs.lemmas.List.Sorted.{All-permutation, IsPermutation-sym, IsPermutation-trans, IsNonDecreasingBy-from_sort, length_permutation}
use Rattle.std.proofs.lemmas.Map.Keys.{IsDistinct-IsPermutation, IsDistinct-from_apart, IsStrictlyIncreasing-from_distinct}
use Rattle.ix_lines.specs.declared.types.ConnLine.{ConnLine}
use Rattle.ix_lines.specs.declared.types.StrayLine.{StrayLine}
use Rattle.ix_fits.specs.Replies.{NameEachOnce, numbers_of}

-- ## A loop over lines
pub lines-one : {A B : Type 0} (f : A → List B) (xs : List A) (i : ℕ) (d : A) (done ys : List B) → i < length xs → ys ≡ f (get_or xs i d)
    → (done ++ ys) ++ flat_map f (drop (i + 1) xs) ≡ done ++ flat_map f (drop i xs)
lines-one f xs i d done ys h e =
    append_assoc done ys (flat_map f (drop (i + 1) xs))
    ∙ ap (λ zs. done ++ (zs ++ flat_map f (drop (i + 1) xs))) e
    ∙ ap (λ zs. done ++ flat_map f zs) (sym (drop_more xs i d h))

pub lines-end : {A B : Type 0} (f : A → List B) (xs : List A) (i : ℕ) (done : List B) → length xs ≤ i → done ++ flat_map f (drop i xs) ≡ done
lines-end f xs i done h = ap (λ zs. done ++ flat_map f zs) (drop_all i xs h) ∙ append-nil done

pub ruleset for_lines = (lines-one, lines-end)

-- over those of a group
kept : {A B : Type 0} (f : A → List B) (p : A → Bool) (x : A) (xs : List A) → (if p x then f x else []) ++ flat_map f (filter p xs) ≡ flat_map f (filter p (x ∷ xs))
kept f p x xs = by_test (p x)
  where
    by_test : (b : Bool) → (if b then f x else []) ++ flat_map f (filter p xs) ≡ flat_map f (if b then x ∷ filter p xs else filter p xs)
    by_test true = refl
    by_test false = refl

pub group-one : {A B : Type 0} (f : A → List B) (p : A → Bool) (xs : List A) (i : ℕ) (d : A) (done ys : List B) → i < length xs → ys ≡ (if p (get_or xs i d) then f (get_or xs i d) else [])
    → (done ++ ys) ++ flat_map f (filter p (drop (i + 1) xs)) ≡ done ++ flat_map f (filter p (drop i xs))
group-one f p xs i d done ys h e =
    append_assoc done ys (flat_map f (filter p (drop (i + 1) xs)))
    ∙ ap (λ zs. done ++ (zs ++ flat_map f (filter p (drop (i + 1) xs)))) e
    ∙ ap (λ zs. done ++ zs) (kept f p (get_or xs i d) (drop (i + 1) xs))
    ∙ ap (λ zs. done ++ flat_map f (filter p zs)) (sym (drop_more xs i d h))

pub group-end : {A B : Type 0} (f : A → List B) (p : A → Bool) (xs : List A) (i : ℕ) (done : List B) → length xs ≤ i → done ++ flat_map f (filter p (drop i xs)) ≡ done
group-end f p xs i done h = ap (λ zs. done ++ flat_map f (filter p zs)) (drop_all i xs h) ∙ append-nil done

pub ruleset for_groups = (group-one, group-end)

pub ruleset for_both = (append_assoc)

-- ## Each number once
eq_flips : (x y : ℕ) → (x == y) ≡ (y == x)
eq_flips x y = nat_eq_equiv.symm x y

range-at : (n i d : ℕ) → i < n → get_or (range_with_len 0 n) i d ≡ i
range-at n i d lt = omega (arith, get_or-range_with_len 0 n i d lt)

range-distinct : (n : ℕ) → IsDistinct (λ (x y : ℕ). x == y) (range_with_len 0 n)
range-distinct n =
    IsDistinct-from_apart (λ (x y : ℕ). x == y) (range_with_len 0 n)
    (λ i j d lt within.
    let below : j < n = omega (arith, within, length-range_with_len 0 n) in
    ne_eqb (get_or (range_with_len 0 n) i d) (get_or (range_with_len 0 n) j d) (λ e. omega (arith, e, range-at n i d (omega (arith, lt, below)), range-at n j d below, lt)))

range-below : (n : ℕ) → All (λ (x : ℕ). x < n) (range_with_len 0 n)
range-below n k d lt = let within : k < n = omega (arith, lt, length-range_with_len 0 n) in omega (arith, range-at n k d within, within)

-- numbers that rise stand at their places where they are below their count
rises-low : (xs : List ℕ) → IsStrictlyIncreasing xs → (k : ℕ) → k < length xs → k ≤ get_or xs k 0
rises-low xs up zero lt = omega arith
rises-low xs up (suc k) lt =
    let one : k + 1 ≡ suc k = omega arith in
    omega (arith, rises-low xs up k (omega (arith, lt)), up k (omega (arith, lt)), ap (λ m. get_or xs m 0) one)

rises-high : (xs : List ℕ) → IsStrictlyIncreasing xs → (k j : ℕ) → k + j < length xs → get_or xs k 0 + j ≤ get_or xs (k + j) 0
rises-high xs up k zero lt = omega (arith, ap (λ m. get_or xs m 0) (let e : k + zero ≡ k = omega arith in e))
rises-high xs up k (suc j) lt =
    omega (arith, rises-high xs up k j (omega (arith, lt)), up (k + j) (omega (arith, lt)), ap (λ m. get_or xs m 0) (let e : (k + j) + 1 ≡ k + suc j = omega arith in e))

sorted-range : (n : ℕ) (ys : List ℕ) → IsPermutation (range_with_len 0 n) ys → IsNonDecreasing ys → ys ≡ range_with_len 0 n
sorted-range n ys same up =
    let long : length ys ≡ n = length_permutation (range_with_len 0 n) ys same ∙ length-range_with_len 0 n in
    let rise : IsStrictlyIncreasing ys = IsStrictlyIncreasing-from_distinct ys up (IsDistinct-IsPermutation (λ (x y : ℕ). x == y) eq_flips (range_with_len 0 n) ys same (range-distinct n)) in
    let below : All (λ (x : ℕ). x < n) ys = All-permutation (λ (x : ℕ). x < n) (range_with_len 0 n) ys same (range-below n) in
    ext_get_or 0 ys (range_with_len 0 n) (long ∙ sym (length-range_with_len 0 n))
    (λ k lt.
    let last : ℕ = (n - 1) - k in
    let end : k + last ≡ n - 1 = omega (arith, lt, long) in
    let high = rises-high ys rise k last (omega (arith, end, lt, long)) in
    let top = below (k + last) 0 (omega (arith, end, lt, long)) in
    omega (arith, rises-low ys rise k lt, high, top, end, lt, long, range-at n k 0 (omega (arith, lt, long))))

pub once-decided : (strays : List StrayLine) (conns : List ConnLine) (xs ys : List ℕ) (n : ℕ) (t : Bool) → xs ≡ numbers_of strays conns → IsPermutation xs ys → IsSorted nat_cmp ys
    → Decides t (ys ≡ range_with_len 0 n) → Decides t (NameEachOnce strays conns n)
once-decided strays conns xs ys n t is same up decides = (
  λ e. record { same = subst (λ zs. IsPermutation zs (range_with_len 0 n)) is (subst (IsPermutation xs) (decides.0 e) same) },
  λ once.
      decides.1
      (sorted-range n ys
      (IsPermutation-trans (range_with_len 0 n) xs ys (IsPermutation-sym xs (range_with_len 0 n) (subst (λ zs. IsPermutation zs (range_with_len 0 n)) (sym is) once.same)) same)
      (IsNonDecreasingBy-from_sort (λ x. x) ys up)),
)

-- ## A list against the numbers from 0 on
pub range-more : (xs : List ℕ) (i n : ℕ) → i < length xs → length xs ≡ n → get_or xs i 0 ≡ i → take i xs ≡ take i (range_with_len 0 n) → take (i + 1) xs ≡ take (i + 1) (range_with_len 0 n)
range-more xs i n lt long e so_far =
    let within : i < length (range_with_len 0 n) = omega (arith, lt, long, length-range_with_len 0 n) in
    take_more_same xs (range_with_len 0 n) i 0 lt within so_far (e ∙ sym (range-at n i 0 (omega (arith, lt, long))))

pub range-all : (xs : List ℕ) (i n : ℕ) → length xs ≤ i → length xs ≡ n → take i xs ≡ take i (range_with_len 0 n) → xs ≡ range_with_len 0 n
range-all xs i n le long so_far =
    sym (take_all i xs le) ∙ so_far ∙ take_all i (range_with_len 0 n) (omega (arith, le, long, length-range_with_len 0 n))

pub range-fails : (xs : List ℕ) (i n : ℕ) → i < length xs → (get_or xs i 0 ≡ i → ⊥) → xs ≡ range_with_len 0 n → ⊥
range-fails xs i n lt apart is =
    let long : length xs ≡ n = ap length is ∙ length-range_with_len 0 n in
    apart (ap (λ ys. get_or ys i 0) is ∙ range-at n i 0 (omega (arith, lt, long)))

pub range-short : (xs : List ℕ) (n : ℕ) → (length xs ≡ n → ⊥) → xs ≡ range_with_len 0 n → ⊥
range-short xs n apart is = apart (ap length is ∙ length-range_with_len 0 n)
