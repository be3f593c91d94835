-- The entries that are left, and the cores of groups.
use Rattle.std.proofs.Common.{◌≡◌, ◌≢◌, ◌<◌, ℕ, zero, suc, List, [], ◌∷◌, length, drop, true, false, Some, None, refl, ap, arith}
use Rattle.std.specs.Prelude.{slice_get, slice_set}
use Rattle.ix_wire.specs.declared.entry.Entry.{Entry}
use Rattle.ix_feed.specs.Replays.{closes, is_settle}

pub left_at : {X : Type 0} (xs : List X) (n : ℕ) (x : X) → slice_get xs n ≡ Some x → drop n xs ≡ x ∷ drop (suc n) xs
left_at [] n x e = absurd (cc)
left_at (y ∷ xs) zero x e = let same : y ≡ x = cc in ap (λ z. z ∷ xs) same
left_at (y ∷ xs) (suc n) x e = left_at xs n x e

pub within : {X : Type 0} (xs : List X) (n : ℕ) (x : X) → slice_get xs n ≡ Some x → n < length xs
within [] n x e = absurd (cc)
within (y ∷ xs) zero x e = omega arith
within (y ∷ xs) (suc n) x e = let lt = within xs n x e in omega arith

-- where elements are left, there is a next one
pub none_left : {X : Type 0} (xs : List X) (n : ℕ) → slice_get xs n ≡ None → 0 < length (drop n xs) → ⊥
none_left [] zero e more = absurd (omega arith)
none_left [] (suc n) e more = absurd (omega arith)
none_left (y ∷ xs) zero e more = absurd (cc)
none_left (y ∷ xs) (suc n) e more = none_left xs n e more

pub get_set_same : {X : Type 0} (xs : List X) (i : ℕ) (x y : X) → slice_get xs i ≡ Some y → slice_get (slice_set xs i x) i ≡ Some x
get_set_same [] i x y e = absurd (cc)
get_set_same (z ∷ xs) zero x y e = refl
get_set_same (z ∷ xs) (suc i) x y e = get_set_same xs i x y e

pub get_set_other : {X : Type 0} (xs : List X) (i j : ℕ) (x : X) → j ≢ i → slice_get (slice_set xs i x) j ≡ slice_get xs j
get_set_other [] i j x other = refl
get_set_other (y ∷ xs) zero zero x other = absurd (other refl)
get_set_other (y ∷ xs) zero (suc j) x other = refl
get_set_other (y ∷ xs) (suc i) zero x other = refl
get_set_other (y ∷ xs) (suc i) (suc j) x other = get_set_other xs i j x (λ e. other (ap suc e))

pub closes_behind : (e : Entry) (es : List Entry) → closes (e ∷ es) ≡ true → closes es ≡ true
closes_behind e [] c = refl
closes_behind e (f ∷ es) c = c

pub more_behind : (e : Entry) (es : List Entry) → closes (e ∷ es) ≡ true → is_settle e ≡ false → 0 < length es
more_behind e [] c not_settle = absurd (cc)
more_behind e (f ∷ es) c not_settle = omega arith
