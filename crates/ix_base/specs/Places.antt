-- Laws on lists that are changed at one place.
use Rattle.std.specs.Prelude.{◌≡◌, ℕ, ◌+◌, ◌<◌, ◌≤◌, List, ◌++◌, length, map, sum_by}
use Rattle.std.proofs.Common.{get_or, set, arith, ap, sym, ◌∙◌}
use Rattle.std.proofs.Math.Seq.{map-set_same}
use Rattle.std.proofs.lemmas.Grind.{elements}
use Rattle.std.proofs.lemmas.List.{map-append}
use Rattle.std.proofs.lemmas.List.Sums.{sum_by-set}

-- ## A loop that changes the elements of a list one after the other: ys is what it made of xs when it comes to the element x at place i, and y
-- ## is what it puts there.
module _ {X : Type 0} (R : X → X → Type 0) (xs ys : List X) (i : ℕ) (x y : X) where
  -- below the place of the loop each element stands in R to what it was
  pub step_done : i < length ys → x ≡ get_or ys i x → ((d : X) → get_or ys i d ≡ get_or xs i d) → R x y
      → ((j : ℕ) (d : X) → j < i → R (get_or xs j d) (get_or ys j d))
      → (j : ℕ) (d : X) → j < i + 1 → R (get_or xs j d) (get_or (set ys i y) j d)
  step_done lt read same step below j d le = let b = below j d in let s = same d in grind (arith, elements)

  -- from it on each element is what it was
  pub step_rest : ((j : ℕ) (d : X) → i ≤ j → get_or ys j d ≡ get_or xs j d)
      → (j : ℕ) (d : X) → i + 1 ≤ j → get_or (set ys i y) j d ≡ get_or xs j d
  step_rest rest j d le = let r = rest j d in grind (arith, elements)

-- ## One place
-- what f gives of the elements goes from f x to f y
pub sum_by-changed : {X : Type 0} (f : X → ℕ) (xs : List X) (i : ℕ) (x y : X) → i < length xs → x ≡ get_or xs i x
    → sum_by f (set xs i y) + f x ≡ sum_by f xs + f y
sum_by-changed f xs i x y lt read = ap (λ n. sum_by f (set xs i y) + n) (ap f read) ∙ sum_by-set f xs i y x lt

-- f tells no change where it cannot tell the elements
pub map-changed : {A B : Type 0} (f : A → B) (xs : List A) (i : ℕ) (x y : A) → x ≡ get_or xs i x → f y ≡ f x → map f (set xs i y) ≡ map f xs
map-changed f xs i x y read same = map-set_same f xs i y x (same ∙ ap f read)

-- the same where one element in each half is changed
pub halves_kept : {A B : Type 0} (f : A → B) (front rest : List A) (i : ℕ) (x y d e : A)
    → f x ≡ f (get_or front i d) → f y ≡ f (get_or rest 0 e) → map f (set front i x ++ set rest 0 y) ≡ map f (front ++ rest)
halves_kept f front rest i x y d e p q =
    map-append f (set front i x) (set rest 0 y)
    ∙ ap (λ s. s ++ map f (set rest 0 y)) (map-set_same f front i x d p)
    ∙ ap (λ s. map f front ++ s) (map-set_same f rest 0 y e q)
    ∙ sym (map-append f front rest)
