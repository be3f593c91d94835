-- A loop that works on the elements of a list, one after the other.
use Rattle.std.proofs.Common.{◌≡◌, ℕ, suc, ◌+◌, ◌<◌, List, [], ◌∷◌, ◌++◌, length, get_or, set, take, drop, refl, sym, ap, ◌∙◌, arith, drop-cons}
use Rattle.std.proofs.lemmas.List.{take_more_set, drop-set-lt, set_split, take-append-drop}
use Rattle.std.proofs.Math.Seq.{take-suc}
use Rattle.std.specs.Prelude.{Bool, Option, Some, None, ◌≤◌}
use Rattle.ix_desk.specs.Views.{Piece, Group}
use Rattle.ix_desk.specs.Steps.{leave, EachWorked, cut_leaves, current_leaves, group_leaves}
use Rattle.ix_desk.specs.Failures.{OneFailed}

module _ {X : Type 0} (leaves : ℕ → X → ℕ) (Worked : ℕ → X → X → Type 0) where
  leave-snoc : (b : ℕ) (xs : List X) (x : X) → leave leaves b (xs ++ x ∷ []) ≡ leaves (leave leaves b xs) x
  leave-snoc b [] x = refl
  leave-snoc b (z ∷ xs) x = leave-snoc (leaves b z) xs x

  each-snoc : (b : ℕ) (xs ys : List X) (x y : X) → EachWorked leaves Worked b xs ys → Worked (leave leaves b xs) x y → EachWorked leaves Worked b (xs ++ x ∷ []) (ys ++ y ∷ [])
  each-snoc b [] [] x y e w = (w, e)
  each-snoc b (p ∷ xs) (q ∷ ys) x y e w = (e.0, each-snoc (leaves b p) xs ys x y e.1 w)
  each-snoc b [] (q ∷ ys) x y e w = absurd e
  each-snoc b (p ∷ xs) [] x y e w = absurd e

  module _ (xs ys : List X) (i : ℕ) (x : X) where
    same-here : length ys ≡ length xs → i < length ys → x ≡ get_or ys i x → drop i ys ≡ drop i xs → x ≡ get_or xs i x
    same-here len lt read rest =
        let a = drop-cons ys i x lt in
        let within : i < length xs = omega arith in
        let b = drop-cons xs i x within in
        cc

    taken : length ys ≡ length xs → i < length ys → x ≡ get_or ys i x → drop i ys ≡ drop i xs → take (i + 1) xs ≡ take i xs ++ x ∷ []
    taken len lt read rest =
        let here = same-here len lt read rest in
        let within : i < length xs = omega arith in
        let next : i + 1 ≡ suc i = omega arith in
        rw next (take-suc xs i x within ∙ ap (λ z. take i xs ++ z ∷ []) (sym here))

    pub each-next : (b : ℕ) (y : X) → length ys ≡ length xs → i < length ys → x ≡ get_or ys i x → drop i ys ≡ drop i xs
        → EachWorked leaves Worked b (take i xs) (take i ys) → Worked (leave leaves b (take i xs)) x y
        → EachWorked leaves Worked b (take (i + 1) xs) (take (i + 1) (set ys i y))
    each-next b y len lt read rest each work =
        rw (taken len lt read rest, take_more_set ys i y lt) (each-snoc b (take i xs) (take i ys) x y each work)

    pub leave-next : (b : ℕ) → length ys ≡ length xs → i < length ys → x ≡ get_or ys i x → drop i ys ≡ drop i xs
        → leave leaves b (take (i + 1) xs) ≡ leaves (leave leaves b (take i xs)) x
    leave-next b len lt read rest = rw (taken len lt read rest) (leave-snoc b (take i xs) x)

    pub rest-next : (y : X) → length ys ≡ length xs → i < length ys → drop i ys ≡ drop i xs → drop (i + 1) (set ys i y) ≡ drop (i + 1) xs
    rest-next y len lt rest =
        let a = drop-cons ys i y lt in
        let within : i < length xs = omega arith in
        let b = drop-cons xs i y within in
        let next : i + 1 ≡ suc i = omega arith in
        rw next (drop-set-lt (suc i) ys i y (omega arith) ∙ (cc))

    -- work failed at the element in this place
    pub one-failed : (Failed : ℕ → X → X → Type 0) (b : ℕ) (y : X) → length ys ≡ length xs → i < length ys → x ≡ get_or ys i x → drop i ys ≡ drop i xs
        → EachWorked leaves Worked b (take i xs) (take i ys) → Failed (leave leaves b (take i xs)) x y
        → OneFailed leaves Worked Failed b xs (set ys i y)
    one-failed Failed b y len lt read rest each fail =
        let here = same-here len lt read rest in
        let within : i < length xs = omega arith in
        let one : drop i xs ≡ x ∷ drop (suc i) xs = drop-cons xs i x within ∙ ap (λ z. z ∷ drop (suc i) xs) (sym here) in
        let other : drop i ys ≡ x ∷ drop (suc i) ys = drop-cons ys i x lt ∙ ap (λ z. z ∷ drop (suc i) ys) (sym read) in
        let behind : drop (suc i) ys ≡ drop (suc i) xs = cc in
        record {
          before = take i xs;
          one = x;
          behind = drop (suc i) xs;
          done = take i ys;
          left = y;
          was = sym (take-append-drop i xs) ∙ ap (λ z. take i xs ++ z) one;
          is = set_split ys i y lt ∙ ap (λ z. take i ys ++ y ∷ z) behind;
          worked = each;
          failed = fail;
        }

-- a list leaves no more of a budget than there was
pub leave-most : {X : Type 0} (leaves : ℕ → X → ℕ) → ((b : ℕ) (x : X) → leaves b x ≤ b) → (b : ℕ) (xs : List X) → leave leaves b xs ≤ b
leave-most leaves most b [] = omega arith
leave-most leaves most b (x ∷ xs) = let rest = leave-most leaves most (leaves b x) xs in let first = most b x in omega arith

module _ {U I : Type 0} (counted : I → Bool) where
  pub current-most : (b : ℕ) (p : Option (Piece U I)) → current_leaves counted b p ≤ b
  current-most b None = omega arith
  current-most b (Some p) = omega arith

  pub group-most : (b : ℕ) (g : Group U I) → group_leaves counted b g ≤ b
  group-most b g =
      let first = leave-most (cut_leaves {U = U} counted) (λ n c. let here : cut_leaves counted n c ≤ n = omega arith in here) b g.cut in
      let second = current-most (leave (cut_leaves counted) b g.cut) g.current in
      omega arith
