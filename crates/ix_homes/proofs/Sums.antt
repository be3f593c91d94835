-- Sums over lists, place by place.
use Rattle.std.proofs.Common.{◌≡◌, ◌+◌, ◌<◌, ℕ, suc, List, [], ◌∷◌, length, get_or, map, sum_by, refl, arith}
use Rattle.std.proofs.lemmas.List.Sums.{sum_by-append, sum_by-cons}
use Rattle.ix_mbuf.specs.Buffers.{Buffer, buffers_weight}
use Rattle.ix_mbuf.specs.declared.name.Name.{Name}
use Rattle.ix_desk.specs.Pieces.{joined}

-- two lists of one length, of which the elements at each place weigh the same
pub sums-same : {X Y : Type 0} (w : X → ℕ) (v : Y → ℕ) (xs : List X) (ys : List Y) → length ys ≡ length xs
    → ((k : ℕ) (d : X) (e : Y) → k < length xs → v (get_or ys k e) ≡ w (get_or xs k d)) → sum_by v ys ≡ sum_by w xs
sums-same w v [] [] len each = refl
sums-same w v [] (y ∷ ys) len each = absurd (omega arith)
sums-same w v (x ∷ xs) [] len each = absurd (omega arith)
sums-same w v (x ∷ xs) (y ∷ ys) len each =
    omega (arith, sum_by-cons w x xs, sum_by-cons v y ys, each 0 x y (omega arith), sums-same w v xs ys (omega arith) (λ k d e lt. each (suc k) d e (omega arith)))

pub sums-equal : {X : Type 0} (w v : X → ℕ) (xs : List X) → ((k : ℕ) (d : X) → k < length xs → v (get_or xs k d) ≡ w (get_or xs k d)) → sum_by v xs ≡ sum_by w xs
sums-equal w v [] each = refl
sums-equal w v (x ∷ xs) each = omega (arith, sum_by-cons w x xs, sum_by-cons v x xs, each 0 x (omega arith), sums-equal w v xs (λ k d lt. each (suc k) d (omega arith)))

-- each element weighs what two parts of it weigh
pub sums-split : {X : Type 0} (w a b : X → ℕ) (xs : List X) → ((k : ℕ) (d : X) → k < length xs → w (get_or xs k d) ≡ a (get_or xs k d) + b (get_or xs k d)) → sum_by w xs ≡ sum_by a xs + sum_by b xs
sums-split w a b [] each = refl
sums-split w a b (x ∷ xs) each =
    omega (arith, sum_by-cons w x xs, sum_by-cons a x xs, sum_by-cons b x xs, each 0 x (omega arith), sums-split w a b xs (λ k d lt. each (suc k) d (omega arith)))

pub sums-add : {X : Type 0} (a b : X → ℕ) (xs : List X) → sum_by (λ x. a x + b x) xs ≡ sum_by a xs + sum_by b xs
sums-add a b xs = sums-split (λ x. a x + b x) a b xs (λ k d lt. refl)

-- what lists of buffers weigh, one behind the other
pub joined-weighs : {X : Type 0} (f : Name → ℕ) (bufs : X → List Buffer) (xs : List X) → buffers_weight f (joined bufs xs) ≡ sum_by (λ x. buffers_weight f (bufs x)) xs
joined-weighs f bufs [] = refl
joined-weighs f bufs (x ∷ xs) =
    omega (arith, sum_by-append (λ (b : Buffer). f b.name) (bufs x) (joined bufs xs), joined-weighs f bufs xs, sum_by-cons (λ y. buffers_weight f (bufs y)) x xs)

pub weigh-map : {X Y : Type 0} (f : Y → ℕ) (g : X → Y) (xs : List X) → sum_by f (map g xs) ≡ sum_by (λ x. f (g x)) xs
weigh-map f g [] = refl
weigh-map f g (x ∷ xs) = omega (arith, sum_by-cons f (g x) (map g xs), weigh-map f g xs, sum_by-cons (λ y. f (g y)) x xs)
