-- Lists joined one after the other, and a place in them.
use Rattle.std.proofs.Common.{◌≡◌, ℕ, suc, ◌+◌, ◌<◌, ◌≤◌, List, [], ◌∷◌, ◌++◌, length, get_or, take, drop, refl, sym, ap, ◌∙◌, arith, append_assoc, drop-cons, length-append}
use Rattle.std.specs.Prelude.{Some, None, slice_get}
use Rattle.std.proofs.lemmas.Option.{slice_get-get_or, get_or_from_slice_get, slice_get_within}
use Rattle.std.proofs.lemmas.List.{get_or-append-add, take-append-drop}
use Rattle.std.proofs.Math.ListN.{get_or-append}
use Rattle.std.proofs.Math.Seq.{take-suc}
use Rattle.ix_desk.specs.Pieces.{joined}

pub joined-append : {X I : Type 0} (f : X → List I) (xs ys : List X) → joined f (xs ++ ys) ≡ joined f xs ++ joined f ys
joined-append f [] ys = refl
joined-append f (x ∷ xs) ys = ap (λ zs. f x ++ zs) (joined-append f xs ys) ∙ sym (append_assoc (f x) _ _)

-- a place behind a list, in the list that follows
slice_get-middle : {I : Type 0} (front middle back : List I) (k n : ℕ) (y : I) → slice_get middle k ≡ Some y → k + length front ≡ n
    → slice_get (front ++ (middle ++ back)) n ≡ Some y
slice_get-middle front middle back k n y found at =
    let within = slice_get_within middle k y found in
    let value = get_or_from_slice_get middle k y y found in
    let inner = get_or-append middle back y k within in
    let outer = get_or-append-add front (middle ++ back) k y in
    let place : n ≡ length front + k = omega arith in
    let lt : n < length (front ++ (middle ++ back)) = omega (arith, length-append front (middle ++ back), length-append middle back) in
    slice_get-get_or (front ++ (middle ++ back)) n y lt ∙ ap Some (rw place (outer ∙ inner ∙ value))

module _ {X I : Type 0} (f : X → List I) (xs : List X) (i : ℕ) (x : X) where
  pub joined-split : i < length xs → x ≡ get_or xs i x → joined f xs ≡ joined f (take i xs) ++ (f x ++ joined f (drop (suc i) xs))
  joined-split lt read =
      ap (joined f) (sym (take-append-drop i xs)) ∙ joined-append f (take i xs) (drop i xs)
      ∙ ap (λ zs. joined f (take i xs) ++ joined f zs) (drop-cons xs i x lt ∙ ap (λ z. z ∷ drop (suc i) xs) (sym read))

  pub found-at : (k n : ℕ) (y : I) → i < length xs → x ≡ get_or xs i x → slice_get (f x) k ≡ Some y → k + length (joined f (take i xs)) ≡ n
      → slice_get (joined f xs) n ≡ Some y
  found-at k n y lt read found at = rw (joined-split lt read) (slice_get-middle (joined f (take i xs)) (f x) (joined f (drop (suc i) xs)) k n y found at)

  pub next-at : (k rest n : ℕ) → i < length xs → x ≡ get_or xs i x → rest + length (f x) ≡ k → k + length (joined f (take i xs)) ≡ n
      → rest + length (joined f (take (i + 1) xs)) ≡ n
  next-at k rest n lt read left at =
      let more : take (i + 1) xs ≡ take i xs ++ x ∷ [] = let same : i + 1 ≡ suc i = omega arith in rw same (take-suc xs i x lt ∙ ap (λ z. take i xs ++ z ∷ []) (sym read)) in
      let all : joined f (take (i + 1) xs) ≡ joined f (take i xs) ++ (f x ++ []) = ap (joined f) more ∙ joined-append f (take i xs) (x ∷ []) in
      let sizes = length-append (joined f (take i xs)) (f x ++ []) in
      let tail = length-append (f x) (let none : List I = [] in none) in
      rw all (omega (arith, sizes, tail))

-- a place that holds nothing is behind the list
pub none_past : {I : Type 0} (xs : List I) (i : ℕ) → slice_get xs i ≡ None → length xs ≤ i
none_past [] i none = omega arith
none_past (x ∷ xs) i none =
    let here : i < length (x ∷ xs) → ⊥ = λ lt. let some = slice_get-get_or (x ∷ xs) i x lt in cc in
    grind (arith, here)
