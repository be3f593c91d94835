-- Sums over all pairs of cores.
use Rattle.std.proofs.Common.{◌≡◌, ◌≢◌, ◌<◌, ◌≤◌, ◌+◌, ◌-◌, ◌⊎◌, inl, inr, ℕ, zero, suc, true, false, List, [], ◌∷◌, length, get_or, sum_by, refl, sym, ap, ◌∙◌, arith}
use Rattle.std.specs.Prelude.{◌==◌, nat_lt, if◌then◌else◌}
use Rattle.std.proofs.lemmas.Bool.{cases_order}
use Rattle.std.proofs.lemmas.Bool.Decides.{nat_tests}
use Rattle.std.proofs.lemmas.List.Sums.{sum_by-cons}
use Rattle.ix_core.specs.declared.link.Link.{Link}
use Rattle.ix_core.specs.declared.turning.Core.{Core}
use Rattle.ix_core.specs.Meeting.{AreMeshed, link_at, other_core}
use Rattle.ix_epochs.proofs.Places.{one_of}

-- f 0 + f 1 + .. of so many
abbrev span : (ℕ → ℕ) → ℕ → ℕ
span f zero = 0
span f (suc n) = f 0 + span (λ i. f (suc i)) n

span_same : (f g : ℕ → ℕ) (n : ℕ) → ((i : ℕ) → i < n → f i ≡ g i) → span f n ≡ span g n
span_same f g zero same = refl
span_same f g (suc n) same = omega (arith, same 0 (omega arith), span_same (λ i. f (suc i)) (λ i. g (suc i)) n (λ i lt. same (suc i) (omega arith)))

span_zero : (n : ℕ) → span (λ i. 0) n ≡ 0
span_zero zero = refl
span_zero (suc n) = omega (arith, span_zero n)

span_plus : (f g : ℕ → ℕ) (n : ℕ) → span (λ i. f i + g i) n ≡ span f n + span g n
span_plus f g zero = refl
span_plus f g (suc n) = omega (arith, span_plus (λ i. f (suc i)) (λ i. g (suc i)) n)

span_turned : (g : ℕ → ℕ → ℕ) (n m : ℕ) → span (λ c. span (λ d. g c d) m) n ≡ span (λ d. span (λ c. g c d) n) m
span_turned g zero m = sym (span_zero m)
span_turned g (suc n) m =
    ap (λ k. span (λ d. g 0 d) m + k) (span_turned (λ c d. g (suc c) d) n m) ∙ sym (span_plus (λ d. g 0 d) (λ d. span (λ c. g (suc c) d) n) m)

-- a sum over the others of a core is one over all, where the core itself adds nothing
other_next : (c p : ℕ) → other_core (suc c) (suc p) ≡ suc (other_core c p)
other_next c p = grind (arith, nat_tests)

other_above : (p : ℕ) → other_core 0 p ≡ suc p
other_above p = grind (arith, nat_tests)

other_first : (c : ℕ) → other_core (suc c) 0 ≡ 0
other_first c = grind (arith, nat_tests)

span_others : (f : ℕ → ℕ) (c m : ℕ) → c ≤ m → f c ≡ 0 → span (λ p. f (other_core c p)) m ≡ span f (suc m)
span_others f zero m le none = omega (arith, none, span_same (λ p. f (other_core 0 p)) (λ p. f (suc p)) m (λ p lt. ap f (other_above p)))
span_others f (suc c) zero le none = absurd (omega arith)
span_others f (suc c) (suc m) le none =
    omega (
      arith,
      ap f (other_first c),
      span_same (λ p. f (other_core (suc c) (suc p))) (λ p. f (suc (other_core c p))) m (λ p lt. ap f (other_next c p)),
      span_others (λ i. f (suc i)) c m (omega arith) none,
    )

-- ## Lists
abbrev value_at : {X : Type 0} → (X → ℕ) → List X → ℕ → ℕ
value_at v [] i = 0
value_at v (x ∷ xs) zero = v x
value_at v (x ∷ xs) (suc i) = value_at v xs i

value_so : {X : Type 0} (v : X → ℕ) (xs : List X) (i : ℕ) (d : X) → i < length xs → value_at v xs i ≡ v (get_or xs i d)
value_so v [] i d lt = absurd (omega arith)
value_so v (x ∷ xs) zero d lt = refl
value_so v (x ∷ xs) (suc i) d lt = value_so v xs i d (omega arith)

sum_spans : {X : Type 0} (v : X → ℕ) (xs : List X) → sum_by v xs ≡ span (value_at v xs) (length xs)
sum_spans v [] = refl
sum_spans v (x ∷ xs) = omega (arith, sum_by-cons v x xs, sum_spans v xs)

pub sums_equal : {X Y : Type 0} (v : X → ℕ) (w : Y → ℕ) (xs : List X) (ys : List Y) → length ys ≡ length xs → ((i : ℕ) (d : X) (e : Y) → i < length xs → v (get_or xs i d) ≡ w (get_or ys i e)) → sum_by v xs ≡ sum_by w ys
sums_equal v w [] [] len each = refl
sums_equal v w [] (y ∷ ys) len each = absurd (omega (arith, len))
sums_equal v w (x ∷ xs) [] len each = absurd (omega (arith, len))
sums_equal v w (x ∷ xs) (y ∷ ys) len each =
    omega (arith, each 0 x y (omega arith), sums_equal v w xs ys (omega (arith, len)) (λ i d e lt. each (suc i) d e (omega arith)), sum_by-cons v x xs, sum_by-cons w y ys)

pub sums_plus : {X : Type 0} (v w : X → ℕ) (xs : List X) → sum_by (λ x. v x + w x) xs ≡ sum_by v xs + sum_by w xs
sums_plus v w [] = refl
sums_plus v w (x ∷ xs) = omega (arith, sums_plus v w xs, sum_by-cons (λ k. v k + w k) x xs, sum_by-cons v x xs, sum_by-cons w x xs)

-- the place of the link of one core to another
abbrev place : ℕ → ℕ → ℕ
place c d = if nat_lt c d then d - 1 else d

place_other : (c p : ℕ) → place c (other_core c p) ≡ p
place_other c p = grind (arith, nat_tests)

module _ {U E : Type 0} where
  abbrev row : List (Core U E) → ℕ → List (Link U E)
  row [] c = []
  row (k ∷ ks) zero = k.links.items
  row (k ∷ ks) (suc c) = row ks c

  row_so : (cores : List (Core U E)) (c : ℕ) (d : Core U E) → c < length cores → row cores c ≡ (get_or cores c d).links.items
  row_so [] c d lt = absurd (omega arith)
  row_so (k ∷ ks) zero d lt = refl
  row_so (k ∷ ks) (suc c) d lt = row_so ks c d (omega arith)

  rows_span : (v : Link U E → ℕ) (cores : List (Core U E)) → sum_by (λ k. sum_by v k.links.items) cores ≡ span (λ c. sum_by v (row cores c)) (length cores)
  rows_span v [] = refl
  rows_span v (k ∷ ks) = omega (arith, sum_by-cons (λ (x : Core U E). sum_by v x.links.items) k ks, rows_span v ks)

  -- the value of the link of one core to another
  abbrev between : (Link U E → ℕ) → List (Core U E) → ℕ → ℕ → ℕ
  between v cores c d = if c == d then 0 else value_at v (row cores c) (place c d)

  between_self : (v : Link U E → ℕ) (cores : List (Core U E)) (c : ℕ) → between v cores c c ≡ 0
  between_self v cores c = let here : (c == c) ≡ true = grind (arith, nat_tests) in ap (λ b. if b then 0 else value_at v (row cores c) (place c c)) here

  between_other : (v : Link U E → ℕ) (cores : List (Core U E)) (c p : ℕ) → between v cores c (other_core c p) ≡ value_at v (row cores c) p
  between_other v cores c p =
      let apart : (c == other_core c p) ≡ false = grind (arith, nat_tests) in
      ap (λ b. if b then 0 else value_at v (row cores c) (place c (other_core c p))) apart ∙ ap (value_at v (row cores c)) (place_other c p)

  row_span : (v : Link U E → ℕ) (cores : List (Core U E)) (c : ℕ) → c < length cores → length (row cores c) + 1 ≡ length cores → sum_by v (row cores c) ≡ span (between v cores c) (length cores)
  row_span v cores c lt count =
      let m = length (row cores c) in
      let size : suc m ≡ length cores = omega (arith, count) in
      sum_spans v (row cores c) ∙ span_same (value_at v (row cores c)) (λ p. between v cores c (other_core c p)) m (λ p within. sym (between_other v cores c p))
      ∙ span_others (between v cores c) c m (omega (arith, lt, size)) (between_self v cores c) ∙ ap (span (between v cores c)) size

  -- where each link has on one side what the other end has on the other side, both sides add up to the same
  pub mesh_sums : (v w : Link U E → ℕ) (cores : List (Core U E)) → AreMeshed cores
      → ((a b : ℕ) (d : Core U E) (e : Link U E) → a < b → b < length cores → (v (link_at cores a (b - 1) d e) ≡ w (link_at cores b a d e)) × (v (link_at cores b a d e) ≡ w (link_at cores a (b - 1) d e)))
      → sum_by (λ k. sum_by v k.links.items) cores ≡ sum_by (λ k. sum_by w k.links.items) cores
  mesh_sums v w cores m each =
      rows_span v cores ∙ span_same (λ c. sum_by v (row cores c)) (λ c. span (between v cores c) (length cores)) (length cores) (λ c lt. row_span v cores c lt (count c lt))
      ∙ span_turned (between v cores) (length cores) (length cores)
      ∙ span_same (λ d. span (λ c. between v cores c d) (length cores)) (λ d. span (between w cores d) (length cores)) (length cores)
      (λ d in_d. span_same (λ c. between v cores c d) (between w cores d) (length cores) (λ c in_c. turned c d in_c in_d))
      ∙ sym (span_same (λ c. sum_by w (row cores c)) (λ c. span (between w cores c) (length cores)) (length cores) (λ c lt. row_span w cores c lt (count c lt))) ∙ sym (rows_span w cores) where
        count : (c : ℕ) → c < length cores → length (row cores c) + 1 ≡ length cores
        count c lt = let k = one_of cores c lt in ap (λ (l : List (Link U E)). length l + 1) (row_so cores c k lt) ∙ m.links c k lt

        at : (z : Link U E → ℕ) (c d p : ℕ) (k : Core U E) (e : Link U E) → c < length cores → p + 1 < length cores → c ≢ d → place c d ≡ p → between z cores c d ≡ z (link_at cores c p k e)
        at z c d p k e lt within apart is =
            let off : (c == d) ≡ false = grind (arith, nat_tests) in
            ap (λ b. if b then 0 else value_at z (row cores c) (place c d)) off ∙ ap (value_at z (row cores c)) is
            ∙ value_so z (row cores c) p e (omega (arith, count c lt, within)) ∙ ap (λ (l : List (Link U E)). z (get_or l p e)) (row_so cores c k lt)

        place_up : (a b : ℕ) → a < b → place a b ≡ b - 1
        place_up a b lt = grind (arith, nat_tests)

        place_down : (a b : ℕ) → a < b → place b a ≡ a
        place_down a b lt = grind (arith, nat_tests)

        turned_at : (c d : ℕ) → c < length cores → d < length cores → (c ≡ d) ⊎ ((c < d) ⊎ (d < c)) → between v cores c d ≡ between w cores d c
        turned_at c d in_c in_d (inl same) =
            ap (λ k. between v cores c k) (sym same) ∙ between_self v cores c ∙ sym (between_self w cores c) ∙ ap (λ k. between w cores k c) same
        turned_at c d in_c in_d (inr (inl lt)) =
            let k = one_of cores c in_c in
            let e = one_of (row cores c) (d - 1) (omega (arith, count c in_c, lt, in_d)) in
            at v c d (d - 1) k e in_c (omega (arith, lt, in_d)) (λ z. omega arith) (place_up c d lt) ∙ (each c d k e lt in_d).0
            ∙ sym (at w d c c k e in_d (omega (arith, lt, in_d)) (λ z. omega arith) (place_down c d lt))
        turned_at c d in_c in_d (inr (inr lt)) =
            let k = one_of cores c in_c in
            let e = one_of (row cores c) d (omega (arith, count c in_c, lt)) in
            at v c d d k e in_c (omega (arith, lt, in_c)) (λ z. omega arith) (place_down d c lt) ∙ (each d c k e lt in_c).1
            ∙ sym (at w d c (c - 1) k e in_d (omega (arith, lt, in_c)) (λ z. omega arith) (place_up d c lt))

        turned : (c d : ℕ) → c < length cores → d < length cores → between v cores c d ≡ between w cores d c
        turned c d in_c in_d = turned_at c d in_c in_d (cases_order c d)
