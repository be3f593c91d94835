-- The names of a pool's buffers.
use Rattle.std.proofs.Common.{◌≡◌, ◌≢◌, ◌<◌, ◌≤◌, ◌⊎◌, inl, inr, ℕ, zero, suc, Bool, true, false, List, [], ◌∷◌, refl, ap, ◌∙◌, arith}
use Rattle.std.specs.Prelude.{All, ◌==◌, ◌&&◌, nat_lt, if◌then◌else◌}
use Rattle.std.proofs.lemmas.Bool.{cases_eq, cases_lt}
use Rattle.std.proofs.lemmas.Bool.Decides.{nat_tests}
use Rattle.std.proofs.lemmas.List.Elements.{All-cons, All-nil}
use Rattle.std.proofs.lemmas.List.Sums.{sum_by-cons, sum_by_push}
use Rattle.ix_base.specs.declared.id.BufId.{BufId}
use Rattle.ix_base.specs.declared.id.CoreId.{CoreId}
use Rattle.ix_mbuf.specs.declared.name.Name.{Name}
use Rattle.ix_mbuf.specs.Buffers.{Buffer, buffers_weight}
use Rattle.ix_mbuf.specs.Owners.{one_if, same_id, times}
use Rattle.ix_mbuf.specs.Pools.{Stock, all_names, is_out_of, unused}
use Rattle.ix_core.specs.Renewing.{IsOf}

unused_other : (x : BufId) (home : CoreId) (n : ℕ) → x.home.0 ≢ home.0 → one_if x (unused home n) ≡ 0
unused_other x home n apart = let off : (x.home.0 == home.0) ≡ false = grind (arith, nat_tests) in rw off refl

unused_slot : (x : BufId) (home : CoreId) (n : ℕ) → x.slot ≢ n → one_if x (unused home n) ≡ 0
unused_slot x home n apart = let off : (x.slot == n) ≡ false = grind (arith, nat_tests) in slot (x.home.0 == home.0) off where
  slot : (b : Bool) → (x.slot == n) ≡ false → ◌≡◌ {A = ℕ} (if b && x.slot == n then 1 else 0) 0
  slot true off = rw off refl
  slot false off = refl

one_most : (x : BufId) (y : Name) → one_if x y ≤ 1
one_most x y = most (same_id x y.id) where
  most : (b : Bool) → (if b then 1 else 0) ≤ 1
  most true = omega arith
  most false = omega arith

names_other : (x : BufId) (home : CoreId) (n : ℕ) → x.home.0 ≢ home.0 → times x (all_names home n) ≡ 0
names_other x home zero apart = refl
names_other x home (suc n) apart = omega (arith, sum_by_push (one_if x) (all_names home n) (unused home n), names_other x home n apart, unused_other x home n apart)

names_above : (x : BufId) (home : CoreId) (n : ℕ) → n ≤ x.slot → times x (all_names home n) ≡ 0
names_above x home zero le = refl
names_above x home (suc n) le = omega (arith, sum_by_push (one_if x) (all_names home n) (unused home n), names_above x home n (omega arith), unused_slot x home n (λ e. omega arith))

names_once : (x : BufId) (home : CoreId) (n : ℕ) → times x (all_names home n) ≤ 1
names_once x home zero = omega arith
names_once x home (suc n) = once (cases_eq x.slot n) (names_once x home n) where
  once : (x.slot ≡ n) ⊎ (x.slot ≢ n) → times x (all_names home n) ≤ 1 → times x (all_names home (suc n)) ≤ 1
  once (inl same) below = omega (arith, sum_by_push (one_if x) (all_names home n) (unused home n), names_above x home n (omega (arith, same)), one_most x (unused home n))
  once (inr apart) below = omega (arith, below, sum_by_push (one_if x) (all_names home n) (unused home n), unused_slot x home n apart)

free_so : (h k s n m t : ℕ) → (h == k && (nat_lt s n && m == 0)) ≡ false → (h ≢ k → t ≡ 0) → (n ≤ s → t ≡ 0) → t ≤ 1 → t ≤ m
free_so h k s n m t none other above once = grind (arith, nat_tests)

-- a buffer of the pool that isn't out of it is free
pub in_free : (p : Stock) (x : BufId) → is_out_of p x ≡ false → times x (all_names p.home p.n) ≤ times x p.free
in_free p x none =
    free_so x.home.0 p.home.0 x.slot p.n (times x p.free) (times x (all_names p.home p.n)) none (λ apart. names_other x p.home p.n apart) (λ le. names_above x p.home p.n le) (names_once x p.home p.n)

pub one_self : (x : BufId) (n : Name) → n.id ≡ x → one_if x n ≡ 1
one_self x n e = rw e (self x.home.0 x.slot) where
  self : (a b : ℕ) → ◌≡◌ {A = ℕ} (if a == a && b == b then 1 else 0) 1
  self a b = let p : (a == a) ≡ true = grind (arith, nat_tests) in let q : (b == b) ≡ true = grind (arith, nat_tests) in rw (p, q) refl

-- a name that a pool has
pub of_pool : (pool : Stock) (x : Name) → 1 ≤ times x.id (all_names pool.home pool.n) → IsOf pool x
of_pool pool x one = (home (cases_eq x.id.home.0 pool.home.0), slot (cases_lt x.id.slot pool.n)) where
  home : (x.id.home.0 ≡ pool.home.0) ⊎ (x.id.home.0 ≢ pool.home.0) → x.id.home ≡ pool.home
  home (inl same) = ap (λ (n : ℕ). let c : CoreId = record { 0 = n } in c) same
  home (inr apart) = absurd (omega (arith, one, names_other x.id pool.home pool.n apart))

  slot : (x.id.slot < pool.n) ⊎ (pool.n ≤ x.id.slot) → x.id.slot < pool.n
  slot (inl less) = less
  slot (inr above) = absurd (omega (arith, one, names_above x.id pool.home pool.n above))

-- buffers that are a pool's, by how often each may be there
pub all_of_pool : (pool : Stock) (bufs : List Buffer) → ((id : BufId) → buffers_weight (one_if id) bufs ≤ times id (all_names pool.home pool.n)) → All (λ b. IsOf pool b.name) bufs
all_of_pool pool [] within = All-nil (λ (b : Buffer). IsOf pool b.name)
all_of_pool pool (b ∷ bufs) within =
    let first : 1 ≤ times b.name.id (all_names pool.home pool.n) =
    omega (arith, within b.name.id, sum_by-cons (λ (z : Buffer). one_if b.name.id z.name) b bufs, one_self b.name.id b.name refl) in
    All-cons (λ (z : Buffer). IsOf pool z.name) b bufs (of_pool pool b.name first)
    (all_of_pool pool bufs (λ id. omega (arith, within id, sum_by-cons (λ (z : Buffer). one_if id z.name) b bufs)))

-- names that are a pool's, by how often each buffer may be there
pub names_of_pool : (pool : Stock) (names : List Name) → ((id : BufId) → times id names ≤ times id (all_names pool.home pool.n)) → All (λ x. IsOf pool x) names
names_of_pool pool [] within = All-nil (λ (x : Name). IsOf pool x)
names_of_pool pool (x ∷ xs) within =
    let first : 1 ≤ times x.id (all_names pool.home pool.n) = omega (arith, within x.id, sum_by-cons (one_if x.id) x xs, one_self x.id x refl) in
    All-cons (λ (z : Name). IsOf pool z) x xs (of_pool pool x first) (names_of_pool pool xs (λ id. omega (arith, within id, sum_by-cons (one_if id) x xs)))

-- a buffer of a pool is one of each pool of the same core with as many slots
pub still_of : (p q : Stock) (x : Name) → p.home ≡ q.home → p.n ≡ q.n → IsOf p x → IsOf q x
still_of p q x home number (h, s) = (h ∙ home, omega (arith, s, number))
