-- Each buffer of the pools is made once, and what is at the desks is held.
use Rattle.std.proofs.Common.{◌≡◌, ◌+◌, ◌<◌, ◌≤◌, ◌==◌, ◌&&◌, ℕ, zero, suc, Bool, List, [], ◌∷◌, length, get_or, sum_by, subst, ◌∙◌, arith}
use Rattle.std.specs.Prelude.{if◌then◌else◌, nat_lt}
use Rattle.std.proofs.lemmas.Bool.Decides.{nat_tests}
use Rattle.std.proofs.lemmas.List.Sums.{sum_by-cons, sum_by_push}
use Rattle.ix_base.specs.declared.id.BufId.{BufId}
use Rattle.ix_base.specs.declared.id.CoreId.{CoreId}
use Rattle.ix_mbuf.specs.declared.name.Name.{Name}
use Rattle.ix_mbuf.specs.Owners.{one_if, weigh}
use Rattle.ix_mbuf.specs.Pools.{all_names, unused}
use Rattle.ix_core.specs.declared.turning.Core.{Core}
use Rattle.ix_core.specs.Weights.{core_weight, desks_weight}
use Rattle.ix_homes.specs.Held.{made}

-- ## One pool
slot-more : (here : Bool) (s n k : ℕ) → k ≡ (if here && nat_lt s n then 1 else 0) → k + (if here && s == n then 1 else 0) ≡ (if here && nat_lt s (suc n) then 1 else 0)
slot-more here s n k e = grind (arith, nat_tests)

pool-has : (x : BufId) (home : CoreId) (n : ℕ) → weigh (one_if x) (all_names home n) ≡ (if x.home.0 == home.0 && nat_lt x.slot n then 1 else 0)
pool-has x home zero = grind (arith, nat_tests)
pool-has x home (suc n) =
    omega (arith, sum_by_push (one_if x) (all_names home n) (unused home n), slot-more (x.home.0 == home.0) x.slot n (weigh (one_if x) (all_names home n)) (pool-has x home n))

one-of-two : (a b : Bool) → (if a && b then 1 else 0) ≤ (if a then 1 else 0)
one-of-two a b = grind arith

-- ## All pools
-- the pool with this number has it at most once, and so have those behind it
pool-more : (h k w rest : ℕ) → w ≤ (if h == k then 1 else 0) → rest ≤ (if nat_lt h (suc k) then 0 else 1) → w + rest ≤ (if nat_lt h k then 0 else 1)
pool-more h k w rest one few = grind (arith, nat_tests)

module _ {U E : Type 0} where
  made-few : (x : BufId) (k : ℕ) (cores : List (Core U E)) → ((c : ℕ) (d : Core U E) → c < length cores → (get_or cores c d).pool.home.0 ≡ k + c)
      → made cores (one_if x) ≤ (if nat_lt x.home.0 k then 0 else 1)
  made-few x k [] numbers = grind arith
  made-few x k (c ∷ cores) numbers =
      let here : c.pool.home.0 ≡ k = numbers 0 c (omega arith) ∙ omega arith in
      let one : weigh (one_if x) (all_names c.pool.home c.pool.n) ≤ (if x.home.0 == c.pool.home.0 then 1 else 0) =
      omega (arith, pool-has x c.pool.home c.pool.n, one-of-two (x.home.0 == c.pool.home.0) (nat_lt x.slot c.pool.n)) in
      let rest = made-few x (suc k) cores (λ i d lt. numbers (suc i) d (omega (arith, lt)) ∙ omega arith) in
      let more = pool-more x.home.0 k (weigh (one_if x) (all_names c.pool.home c.pool.n)) (made cores (one_if x))
      (subst (λ n. weigh (one_if x) (all_names c.pool.home c.pool.n) ≤ (if x.home.0 == n then 1 else 0)) here one) rest in
      omega (arith, more, sum_by-cons (λ (y : Core U E). weigh (one_if x) (all_names y.pool.home y.pool.n)) c cores)

  pub made-once : (x : BufId) (cores : List (Core U E)) → ((c : ℕ) (d : Core U E) → c < length cores → (get_or cores c d).pool.home.0 ≡ c) → made cores (one_if x) ≤ 1
  made-once x cores numbers =
      let few : made cores (one_if x) ≤ (if nat_lt x.home.0 0 then 0 else 1) = made-few x 0 cores (λ c d lt. numbers c d lt ∙ omega arith) in
      grind (arith, nat_tests)

  -- ## What is at the desks
  pub desks-held : (w : U → ℕ) (f : Name → ℕ) (cores : List (Core U E)) → sum_by (λ c. desks_weight w f c.desks) cores ≤ sum_by (core_weight w f) cores
  desks-held w f [] = omega arith
  desks-held w f (c ∷ cores) =
      omega (arith, sum_by-cons (λ (y : Core U E). desks_weight w f y.desks) c cores, sum_by-cons (core_weight w f) c cores, one, desks-held w f cores)
    where
      one : desks_weight w f c.desks ≤ core_weight w f c
      one = omega arith

  -- where there is something, there is a core
  pub some-core : (f : Core U E → ℕ) (cores : List (Core U E)) → 1 ≤ sum_by f cores → 1 ≤ length cores
  some-core f [] some = absurd (omega (arith, some))
  some-core f (c ∷ cores) some = omega arith
