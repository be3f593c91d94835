-- Counts over lists, and lists of numbers that are alike in all counts.
use Rattle.std.proofs.Common.{◌≡◌, ℕ, zero, suc, ◌+◌, ◌<◌, ◌≤◌, refl, sym, ap, ◌∙◌, Bool, true, false, List, [], ◌∷◌, ◌++◌, length, get_or, arith, inl, inr}
use Rattle.std.specs.Prelude.{◌==◌, cond, count_by, sum_by, remove}
use Rattle.std.specs.List.{flat_map}
use Rattle.std.specs.List.Sorted.{IsPermutation}
use Rattle.std.proofs.lemmas.Bool.{cases_eq}
use Rattle.std.proofs.lemmas.Bool.Decides.{nat_tests}
use Rattle.std.proofs.lemmas.List.Sorted.{IsPermutation-cons, IsPermutation-refl, IsPermutation-remove, IsPermutation-sym, IsPermutation-trans, sum_by-IsPermutation}
use Rattle.std.proofs.lemmas.List.Sums.{sum_by-append, sum_by-cons}

module _ {B : Type 0} (p : B → Bool) where
  pub count-cons : (x : B) (xs : List B) → count_by p (x ∷ xs) ≡ cond (p x) 1 0 + count_by p xs
  count-cons x xs = sum_by-cons (λ y. cond (p y) 1 0) x xs

  pub count-append : (xs ys : List B) → count_by p (xs ++ ys) ≡ count_by p xs + count_by p ys
  count-append xs ys = sum_by-append (λ y. cond (p y) 1 0) xs ys

  pub count-moved : (xs ys : List B) → IsPermutation xs ys → count_by p ys ≡ count_by p xs
  count-moved xs ys moved = sum_by-IsPermutation (λ y. cond (p y) 1 0) xs ys moved

  pub count-yes : (x : B) (xs : List B) → p x ≡ true → count_by p (x ∷ xs) ≡ 1 + count_by p xs
  count-yes x xs e = omega (arith, count-cons x xs, ap {B = ℕ} (λ (b : Bool). cond b 1 0) e)

  pub count-no : (x : B) (xs : List B) → p x ≡ false → count_by p (x ∷ xs) ≡ count_by p xs
  count-no x xs e = omega (arith, count-cons x xs, ap {B = ℕ} (λ (b : Bool). cond b 1 0) e)

  -- what passes counts
  pub count-at : (xs : List B) (i : ℕ) (d : B) → i < length xs → p (get_or xs i d) ≡ true → 1 ≤ count_by p xs
  count-at [] i d lt e = absurd (omega arith)
  count-at (x ∷ xs) zero d lt e = omega (arith, count-yes x xs e)
  count-at (x ∷ xs) (suc i) d lt e = omega (arith, count-cons x xs, count-at xs i d (omega (arith, lt)) e)

-- ## Numbers

-- a number that counts stands somewhere
record Stands (n : ℕ) (xs : List ℕ) : Type 0 where
  at : ℕ
  within : at < length xs
  here : n ≡ get_or xs at n

stands : (n : ℕ) (xs : List ℕ) → 1 ≤ count_by (λ m. m == n) xs → Stands n xs
stands n [] h = absurd (omega (arith, h))
stands n (x ∷ xs) h = elim (cases_eq x n) [
  | inl same ↦ record { at = 0; within = omega arith; here = sym same }
  | inr other ↦ (let no : (x == n) ≡ false = grind (arith, nat_tests, other) in
      let rest : Stands n xs = stands n xs (omega (arith, h, count-no (λ m. m == n) x xs no)) in
      record { at = suc rest.at; within = omega (arith, rest.within); here = rest.here })
]

-- Lists that hold each number as often as each other have the same elements.
pub same_counts : (xs ys : List ℕ) → ((n : ℕ) → count_by (λ m. m == n) xs ≡ count_by (λ m. m == n) ys) → IsPermutation xs ys
same_counts [] [] alike = IsPermutation-refl []
same_counts [] (y ∷ ys) alike =
    let yes : (y == y) ≡ true = grind (arith, nat_tests) in
    absurd (omega (arith, alike y, count-yes (λ m. m == y) y ys yes))
same_counts (x ∷ xs) ys alike =
    let yes : (x == x) ≡ true = grind (arith, nat_tests) in
    let s : Stands x ys = stands x ys (omega (arith, alike x, count-yes (λ m. m == x) x xs yes)) in
    let moved : IsPermutation ys (x ∷ remove ys s.at) = IsPermutation-remove ys s.at x s.within s.here in
    let rest : IsPermutation xs (remove ys s.at) =
    same_counts xs (remove ys s.at)
    (λ n. omega (arith, alike n, count-cons (λ m. m == n) x xs, count-cons (λ m. m == n) x (remove ys s.at), count-moved (λ m. m == n) ys (x ∷ remove ys s.at) moved)) in
    IsPermutation-trans (x ∷ xs) (x ∷ remove ys s.at) ys (IsPermutation-cons x xs (remove ys s.at) rest) (IsPermutation-sym ys (x ∷ remove ys s.at) moved)

-- ## What elements give
count-flat_map : {A : Type 0} (p : ℕ → Bool) (f : A → List ℕ) (xs : List A) → count_by p (flat_map f xs) ≡ sum_by (λ x. count_by p (f x)) xs
count-flat_map p f [] = refl
count-flat_map p f (x ∷ xs) = omega (arith, count-append p (f x) (flat_map f xs), sum_by-cons (λ y. count_by p (f y)) x xs, count-flat_map p f xs)

pub flat_map-moved : {A : Type 0} (f : A → List ℕ) (xs ys : List A) → IsPermutation xs ys → IsPermutation (flat_map f xs) (flat_map f ys)
flat_map-moved f xs ys moved =
    same_counts (flat_map f xs) (flat_map f ys)
    (λ n. count-flat_map (λ m. m == n) f xs ∙ sym (sum_by-IsPermutation (λ x. count_by (λ m. m == n) (f x)) xs ys moved) ∙ sym (count-flat_map (λ m. m == n) f ys))
