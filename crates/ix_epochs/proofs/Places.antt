-- Elements of lists by their places.
use Rattle.std.proofs.Common.{◌≡◌, ◌≢◌, ◌<◌, ◌≤◌, ◌+◌, ◌⊎◌, inl, inr, ℕ, zero, suc, Bool, true, false, List, [], ◌∷◌, length, map, get_or, set, sum_by, refl, sym, ap, subst, ◌∙◌, arith}
use Rattle.std.specs.Prelude.{◌||◌, nat_lt}
use Rattle.std.specs.List.{list_any}
use Rattle.std.proofs.Math.ListN.{length-set}
use Rattle.std.proofs.lemmas.Bool.{cases_eq, cases_lt}
use Rattle.std.proofs.lemmas.List.{get_or-set_other, get_or-set_same}
use Rattle.std.proofs.lemmas.Bool.Decides.{nat_tests}
use Rattle.std.proofs.lemmas.List.Sums.{sum_by-cons}
use Rattle.ix_base.specs.Places.{step_done, step_rest}
use Rattle.ix_core.specs.Homing.{EachIs, Passed}

-- ## One element
pub one_of : {X : Type 0} (xs : List X) (i : ℕ) → i < length xs → X
one_of [] i lt = absurd (omega arith)
one_of (x ∷ xs) i lt = x

pub get_any : {X : Type 0} (xs : List X) (i : ℕ) (d e : X) → i < length xs → get_or xs i d ≡ get_or xs i e
get_any [] i d e lt = absurd (omega arith)
get_any (x ∷ xs) zero d e lt = refl
get_any (x ∷ xs) (suc i) d e lt = get_any xs i d e (omega arith)

pub get_beyond : {X : Type 0} (xs : List X) (i : ℕ) (d : X) → length xs ≤ i → get_or xs i d ≡ d
get_beyond [] i d le = refl
get_beyond (x ∷ xs) zero d le = absurd (omega arith)
get_beyond (x ∷ xs) (suc i) d le = get_beyond xs i d (omega arith)

-- an element that is read once more is the same
pub read_self : {X : Type 0} (xs : List X) (i : ℕ) (d : X) → i < length xs → get_or xs i d ≡ get_or xs i (get_or xs i d)
read_self xs i d lt = get_any xs i d (get_or xs i d) lt

-- what holds of the first elements, and of the one that is written behind them
pub holds_more : {X : Type 0} (P : X → Type 0) (n : ℕ) (xs next : List X) (y : X) → n < length xs → next ≡ set xs n y → ((c : ℕ) (d : X) → c < n → P (get_or xs c d)) → P y
    → (c : ℕ) (d : X) → c < n + 1 → P (get_or next c d)
holds_more {X = X} P n xs next y lt is below here c d h = one (cases_eq c n) where
  one : (c ≡ n) ⊎ (c ≢ n) → P (get_or next c d)
  one (inl same) = subst P (sym (ap (λ (l : List X). get_or l c d) is ∙ ap (λ i. get_or (set xs n y) i d) same ∙ get_or-set_same xs n y d lt)) here
  one (inr apart) = subst P (sym (ap (λ (l : List X). get_or l c d) is ∙ get_or-set_other xs n c y d apart)) (below c d (omega (arith, h, apart)))

-- ## A loop over a list, one element after the other
module _ {X : Type 0} (R : X → X → Type 0) where
  pub passed_none : (xs : List X) → Passed R 0 xs xs
  passed_none xs = record { count = refl; done = λ k d lt. absurd (omega arith); rest = λ k d le. refl }

  pub passed_more : (i : ℕ) (old new next : List X) (x y : X) → i < length new → x ≡ get_or new i x → next ≡ set new i y → R x y → Passed R i old new → Passed R (i + 1) old next
  passed_more i old new next x y lt read is step so = subst (λ (l : List X). Passed R (i + 1) old l) (sym is) (record {
    count = length-set new i y ∙ so.count;
    done = step_done R old new i x y lt read (λ d. so.rest i d (omega arith)) step so.done;
    rest = step_rest R old new i x y so.rest;
  })

  -- each element that wasn't passed is what it was
  pub passed_so : (stays : (x : X) → R x x) (i : ℕ) (old new : List X) → Passed R i old new → EachIs R old new
  passed_so stays i old new so = record { count = so.count; each = λ k d lt. one k d (cases_lt k i) } where
    one : (k : ℕ) (d : X) → (k < i) ⊎ (i ≤ k) → R (get_or old k d) (get_or new k d)
    one k d (inl lt) = so.done k d lt
    one k d (inr le) = subst (λ (x : X). R (get_or old k d) x) (sym (so.rest k d le)) (stays (get_or old k d))

  pub each_joins : (joins : (x y z : X) → R x y → R y z → R x z) (xs ys zs : List X) → EachIs R xs ys → EachIs R ys zs → EachIs R xs zs
  each_joins joins xs ys zs p q = record {
    count = q.count ∙ p.count;
    each = λ k d lt. joins (get_or xs k d) (get_or ys k d) (get_or zs k d) (p.each k d lt) (q.each k d (omega (arith, p.count, lt)));
  }

-- ## Lists of which each element is the same in some respect
pub maps_same : {X Y : Type 0} (f : X → Y) (xs ys : List X) → length ys ≡ length xs → ((i : ℕ) (d : X) → f (get_or ys i d) ≡ f (get_or xs i d)) → map f ys ≡ map f xs
maps_same f [] [] len each = refl
maps_same f [] (y ∷ ys) len each = absurd (omega (arith, len))
maps_same f (x ∷ xs) [] len each = absurd (omega (arith, len))
maps_same f (x ∷ xs) (y ∷ ys) len each =
    ap (λ z. z ∷ map f ys) (each 0 x) ∙ ap (λ l. f x ∷ l) (maps_same f xs ys (omega (arith, len)) (λ i d. each (suc i) d))

pub sums_same : {X : Type 0} (v : X → ℕ) (xs ys : List X) → length ys ≡ length xs → ((i : ℕ) (d : X) → v (get_or ys i d) ≡ v (get_or xs i d)) → sum_by v ys ≡ sum_by v xs
sums_same v [] [] len each = refl
sums_same v [] (y ∷ ys) len each = absurd (omega (arith, len))
sums_same v (x ∷ xs) [] len each = absurd (omega (arith, len))
sums_same v (x ∷ xs) (y ∷ ys) len each =
    omega (arith, each 0 x, sums_same v xs ys (omega (arith, len)) (λ i d. each (suc i) d), sum_by-cons v x xs, sum_by-cons v y ys)

-- ## Tests of lists
pub either_left : (a b : Bool) → (a || b) ≡ false → a ≡ false
either_left true b e = e
either_left false b e = refl

pub either_right : (a b : Bool) → (a || b) ≡ false → b ≡ false
either_right true b e = absurd (cc)
either_right false b e = e

pub none_at : {X : Type 0} (f : X → Bool) (xs : List X) (i : ℕ) (d : X) → list_any f xs ≡ false → i < length xs → f (get_or xs i d) ≡ false
none_at f [] i d e lt = absurd (omega arith)
none_at f (x ∷ xs) zero d e lt = either_left (f x) (list_any f xs) e
none_at f (x ∷ xs) (suc i) d e lt = none_at f xs i d (either_right (f x) (list_any f xs) e) (omega arith)

pub none_long : {X : Type 0} (xs : List X) → length xs ≡ 0 → xs ≡ []
none_long [] e = refl
none_long (x ∷ xs) e = absurd (omega arith)

pub is_empty : {X : Type 0} (xs : List X) → nat_lt 0 (length xs) ≡ false → xs ≡ []
is_empty xs e = none_long xs (not_some (length xs) e) where
  not_some : (n : ℕ) → nat_lt 0 n ≡ false → n ≡ 0
  not_some n e = grind (arith, nat_tests)
