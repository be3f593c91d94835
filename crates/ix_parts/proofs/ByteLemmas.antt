-- Fronts and rests of bytes that stand one behind another.
use Rattle.std.proofs.Common.{◌≡◌, ◌≤◌, ◌<◌, ℕ, zero, suc, ◌+◌, ◌-◌, List, [], ◌++◌, length, take, drop, refl, ap, sym, ◌∙◌, arith, inl, inr, append_assoc, append-nil, length-take}
use Rattle.std.specs.Prelude.{min}
use Rattle.std.specs.Prelude.{◌⊎◌}
use Rattle.std.proofs.lemmas.Bool.{cases_lt}
use Rattle.std.proofs.lemmas.List.{take-append-le, drop-append-le, take-append-drop, take_min, drop-drop, drop-take}
use Rattle.std.proofs.Math.ListN.{drop_of_length-le}
use Rattle.std.proofs.Math.Seq.{take-append-add, drop-append-add}

abbrev pub no_bytes : List ℕ
no_bytes = []

pub take_nil : (n : ℕ) → take n no_bytes ≡ no_bytes
take_nil zero = refl
take_nil (suc n) = refl

pub drop_nil : (n : ℕ) → drop n no_bytes ≡ no_bytes
drop_nil zero = refl
drop_nil (suc n) = refl

pub drop_all : (n : ℕ) (xs : List ℕ) → length xs ≤ n → drop n xs ≡ []
drop_all n xs le = drop_of_length-le xs le

pub take_all : (n : ℕ) (xs : List ℕ) → length xs ≤ n → take n xs ≡ xs
take_all n xs le =
    sym (append-nil (take n xs)) ∙ ap (λ (ys : List ℕ). take n xs ++ ys) (sym (drop_all n xs le)) ∙ take-append-drop n xs

-- the first n bytes of two runs are those of the first and then those of the second
pub take_onto : (n : ℕ) (xs ys : List ℕ) → take n (xs ++ ys) ≡ take n xs ++ take (n - length xs) ys
take_onto n xs ys = by_case (cases_lt n (length xs))
  where
    by_case : (n < length xs) ⊎ (length xs ≤ n) → take n (xs ++ ys) ≡ take n xs ++ take (n - length xs) ys
    by_case (inl lt) =
        let le : n ≤ length xs = omega arith in
        let none : 0 ≡ n - length xs = omega arith in
        take-append-le n xs ys le ∙ sym (append-nil (take n xs)) ∙ ap (λ (k : ℕ). take n xs ++ take k ys) none
    by_case (inr le) =
        let whole : n ≡ length xs + (n - length xs) = omega arith in
        ap (λ (k : ℕ). take k (xs ++ ys)) whole
        ∙ take-append-add xs ys (n - length xs)
        ∙ ap (λ (zs : List ℕ). zs ++ take (n - length xs) ys) (sym (take_all n xs le))

pub drop_onto : (n : ℕ) (xs ys : List ℕ) → drop n (xs ++ ys) ≡ drop n xs ++ drop (n - length xs) ys
drop_onto n xs ys = by_case (cases_lt n (length xs))
  where
    by_case : (n < length xs) ⊎ (length xs ≤ n) → drop n (xs ++ ys) ≡ drop n xs ++ drop (n - length xs) ys
    by_case (inl lt) =
        let le : n ≤ length xs = omega arith in
        let none : 0 ≡ n - length xs = omega arith in
        drop-append-le n xs ys le ∙ ap (λ (k : ℕ). drop n xs ++ drop k ys) none
    by_case (inr le) =
        let whole : n ≡ length xs + (n - length xs) = omega arith in
        ap (λ (k : ℕ). drop k (xs ++ ys)) whole
        ∙ drop-append-add xs ys (n - length xs)
        ∙ ap (λ (zs : List ℕ). zs ++ drop (n - length xs) ys) (sym (drop_all n xs le))

-- the bytes of a part without its first n
pub skipped : (xs : List ℕ) (from to n : ℕ) → n ≤ length (take (to - from) (drop from xs))
    → take (to - (from + n)) (drop (from + n) xs) ≡ drop n (take (to - from) (drop from xs))
skipped xs from to n le =
    let fits : n ≤ to - from = omega (arith, length-take (to - from) (drop from xs)) in
    let whole : to - from ≡ n + (to - (from + n)) = omega arith in
    ap (take (to - (from + n))) (sym (drop-drop n from xs))
    ∙ sym (drop-take n (to - (from + n)) (drop from xs))
    ∙ ap (λ (k : ℕ). drop n (take k (drop from xs))) (sym whole)

-- ## Bytes in a span are copied from several runs, one after the other
-- what of one run lies in it, and what is left of it for the runs behind
pub copied_more : (out bytes rest all piece : List ℕ) (skip most n : ℕ) → all ≡ drop skip bytes → n ≡ min most (length all) → piece ≡ take n all
    → (out ++ piece) ++ take (most - n) (drop (skip - length bytes) rest) ≡ out ++ take most (drop skip (bytes ++ rest))
copied_more out bytes rest all piece skip most n a b c =
    let left : most - n ≡ most - length all = omega (arith, b) in
    append_assoc out piece (take (most - n) (drop (skip - length bytes) rest))
    ∙ ap (λ (xs : List ℕ). out ++ (xs ++ take (most - n) (drop (skip - length bytes) rest))) (c ∙ ap (λ (k : ℕ). take k all) b ∙ take_min most all)
    ∙ ap (λ (k : ℕ). out ++ (take most all ++ take k (drop (skip - length bytes) rest))) left
    ∙ ap (λ (xs : List ℕ). out ++ xs) (sym (take_onto most all (drop (skip - length bytes) rest)))
    ∙ ap (λ (xs : List ℕ). out ++ take most (xs ++ drop (skip - length bytes) rest)) a
    ∙ ap (λ (xs : List ℕ). out ++ take most xs) (sym (drop_onto skip bytes rest))

pub take_drop_nil : (m s : ℕ) → take m (drop s no_bytes) ≡ no_bytes
take_drop_nil m s = ap (take m) (drop_nil s) ∙ take_nil m

-- both runs of a queue
pub copied_both : (a b one both : List ℕ) (skip most s m t n : ℕ)
    → ((rest : List ℕ) → one ++ take m (drop s rest) ≡ [] ++ take most (drop skip (a ++ rest)))
    → ((rest : List ℕ) → both ++ take n (drop t rest) ≡ one ++ take m (drop s (b ++ rest)))
    → both ≡ take most (drop skip (a ++ b))
copied_both a b one both skip most s m t n first second =
    sym (append-nil both)
    ∙ ap (λ (xs : List ℕ). both ++ xs) (sym (take_drop_nil n t))
    ∙ second []
    ∙ ap (λ (xs : List ℕ). one ++ take m (drop s xs)) (append-nil b)
    ∙ first b
