-- The numbers of items added up, each sum standing still at a top.
use Rattle.std.proofs.Common.{◌≡◌, ℕ, suc, ◌+◌, ◌<◌, List, [], ◌∷◌, ◌++◌, length, get_or, take, sum_by, sym, ap, ◌∙◌, arith}
use Rattle.std.specs.Prelude.{min}
use Rattle.std.proofs.lemmas.List.Sums.{sum_by-append, sum_by_more}
use Rattle.std.proofs.Math.Seq.{take-suc}
use Rattle.ix_desk.specs.Pieces.{joined}
use Rattle.ix_desk.proofs.Joined.{joined-append}

least_sum : (top a b c n k m : ℕ) → n ≡ min a top → k ≡ min b top → m ≡ min (n + k) top → c ≡ a + b → m ≡ min c top
least_sum top a b c n k m p q r s = omega (arith, p, q, r, s)

module _ {I : Type 0} (w : I → ℕ) (top : ℕ) where
  -- of two lists in a row
  pub amount-append : (xs ys : List I) (n k m : ℕ) → n ≡ min (sum_by w xs) top → k ≡ min (sum_by w ys) top → m ≡ min (n + k) top → m ≡ min (sum_by w (xs ++ ys)) top
  amount-append xs ys n k m p q r = least_sum top (sum_by w xs) (sum_by w ys) (sum_by w (xs ++ ys)) n k m p q r (sum_by-append w xs ys)

  -- of one more item
  pub amount-item : (xs : List I) (i : ℕ) (x : I) (n k m : ℕ) → i < length xs → x ≡ get_or xs i x → n ≡ min (sum_by w (take i xs)) top → k ≡ w x → m ≡ min (n + k) top
      → m ≡ min (sum_by w (take (i + 1) xs)) top
  amount-item xs i x n k m lt read so one more =
      let grown : sum_by w (take (i + 1) xs) ≡ sum_by w (take i xs) + k = omega (arith, sum_by_more w xs i x lt, ap w read, one) in
      omega (arith, so, more, grown)

  -- of one more list
  pub amount-next : {X : Type 0} (f : X → List I) (xs : List X) (i : ℕ) (x : X) (n k m : ℕ) → i < length xs → x ≡ get_or xs i x → n ≡ min (sum_by w (joined f (take i xs))) top
      → k ≡ min (sum_by w (f x)) top → m ≡ min (n + k) top → m ≡ min (sum_by w (joined f (take (i + 1) xs))) top
  amount-next f xs i x n k m lt read so one more =
      let next : take (i + 1) xs ≡ take i xs ++ x ∷ [] = let same : i + 1 ≡ suc i = omega arith in rw same (take-suc xs i x lt ∙ ap (λ z. take i xs ++ z ∷ []) (sym read)) in
      let all : joined f (take (i + 1) xs) ≡ joined f (take i xs) ++ (f x ++ []) = ap (joined f) next ∙ joined-append f (take i xs) (x ∷ []) in
      let tail : sum_by w (f x ++ []) ≡ sum_by w (f x) + 0 = sum_by-append w (f x) [] in
      let grown : sum_by w (joined f (take (i + 1) xs)) ≡ sum_by w (joined f (take i xs)) + sum_by w (f x) =
      omega (arith, ap (sum_by w) all, sum_by-append w (joined f (take i xs)) (f x ++ []), tail) in
      least_sum top (sum_by w (joined f (take i xs))) (sum_by w (f x)) (sum_by w (joined f (take (i + 1) xs))) n k m so one more grown
