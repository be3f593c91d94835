-- The numbers of a settle, and each buffer at one place.
use Rattle.std.proofs.Common.{◌≡◌, ◌≢◌, ◌+◌, ◌<◌, ◌≤◌, ◌^◌, ◌==◌, ◌&&◌, ℕ, zero, suc, Bool, true, false, List, [], ◌∷◌, length, get_or, sum_by, refl, sym, ap, subst, ◌∙◌, arith}
use Rattle.std.specs.Prelude.{if◌then◌else◌}
use Rattle.std.proofs.lemmas.Bool.Decides.{nat_tests}
use Rattle.std.proofs.lemmas.List.Sums.{sum_by-cons, sum_by_push}
use Rattle.ix_base.specs.declared.id.BufId.{BufId}
use Rattle.ix_base.specs.declared.id.CoreId.{CoreId}
use Rattle.ix_base.specs.declared.id.Owned.{Owned}
use Rattle.ix_mbuf.specs.declared.name.Name.{Name}
use Rattle.ix_mbuf.specs.Buffers.{Buffer}
use Rattle.ix_mbuf.specs.Owners.{one_if, same_id, weigh}
use Rattle.ix_mbuf.specs.Pools.{all_names, unused}
use Rattle.ix_lines.specs.declared.types.HomeLine.{HomeLine}
use Rattle.ix_nic.specs.Ports.{PortView, capped}
use Rattle.ix_core.specs.Counting.{app_over, frames_over, held_over, queue_over}
use Rattle.ix_core.specs.Renewing.{posted_count}
use Rattle.ix_core.specs.Weights.{core_weight, desks_weight}
use Rattle.ix_core.specs.declared.counting.Home.{Home}
use Rattle.ix_core.specs.declared.turning.Core.{Core}
use Rattle.ix_homes.specs.Held.{made}
use Rattle.ix_homes.specs.Homes.{HomesAddUp, whole_home}
use Rattle.ix_tells.specs.Counts.{BuffersAreOnce, CountsHome, SettlesCount}
use Rattle.ix_tells.specs.Wholes.{home_line}

an-element : {X : Type 0} (xs : List X) (c : ℕ) → c < length xs → X
an-element [] c lt = absurd (omega (arith, lt))
an-element (x ∷ xs) c lt = x

-- ## Numbers
uncapped : (buffers pool posted frames held app queue : ℕ) → buffers < 2 ^ 32 → (pool + posted) + (frames + (held + (app + queue))) ≡ buffers
    → (capped frames ≡ frames) × ((capped held ≡ held) × ((capped app ≡ app) × (capped queue ≡ queue)))
uncapped buffers pool posted frames held app queue few all = (omega (arith, few, all), (omega (arith, few, all), (omega (arith, few, all), omega (arith, few, all))))

module _ {U E : Type 0} (drained : U → List Buffer → U → Type 0) (weight : (Name → ℕ) → U → ℕ) (owners : U → ℕ → Owned) where
  pub settles-count : HomesAddUp U E drained weight owners → SettlesCount U E drained weight owners
  settles-count adds buffers line report card card' cores cores' few slots home settles tells c m below =
      let lt : c < length cores = omega (arith, below, tells.homes_count, settles.homes_count) in
      let there : c < length cores' = omega (arith, lt, settles.count) in
      let d : Core U E = an-element cores' c there in
      let p : PortView = an-element card'.ports c (omega (arith, there, home.ready.order.count)) in
      let h : Home = an-element report.homes.items c (omega (arith, lt, settles.homes_count)) in
      let core : Core U E = get_or cores' c d in
      let number : core.pool.home.0 ≡ c = home.ready.order.numbers c d there in
      let all : whole_home owners (get_or card'.ports c p) core cores' ≡ buffers = adds card' cores' home c p d there ∙ slots c d there in
      let is = tells.homes c m h (omega (arith, lt, settles.homes_count)) ∙ ap home_line (settles.homes c p d h lt) in
      let real = uncapped buffers (length core.pool.free) (posted_count (get_or card'.ports c p)) (frames_over core.pool.home.0 cores') (held_over owners core.pool.home.0 cores') (app_over owners core.pool.home.0 cores') (queue_over owners core.pool.home.0 cores') few all in
      subst (λ (k : ℕ). CountsHome owners k cores' (get_or line.homes c m)) number (record {
        desk = ap (λ (l : HomeLine). l.desk) is ∙ real.0;
        held = ap (λ (l : HomeLine). l.held) is ∙ real.1.0;
        app = ap (λ (l : HomeLine). l.app) is ∙ real.1.1.0;
        queue = ap (λ (l : HomeLine). l.queue) is ∙ real.1.1.1;
      })

-- ## Each buffer once
counts-none : (a b : Bool) → (a ≡ true → b ≡ true → ⊥) → ◌≡◌ {A = ℕ} (if a && b then 1 else 0) 0
counts-none true true off = absurd (off refl refl)
counts-none true false off = refl
counts-none false b off = refl

counts-few : (t : Bool) → ◌≤◌ (if t then 1 else 0) 1
counts-few true = omega arith
counts-few false = omega arith

is-of : (a b : ℕ) → (a == b) ≡ true → a ≡ b
is-of a b e = grind (arith, nat_tests)

names-off : (x : BufId) (home : CoreId) (n : ℕ) → x.home.0 ≢ home.0 → weigh (one_if x) (all_names home n) ≡ 0
names-off x home zero apart = refl
names-off x home (suc n) apart =
    omega (arith, sum_by_push (one_if x) (all_names home n) (unused home n), names-off x home n apart, counts-none (x.home.0 == home.0) (x.slot == n) (λ a b. apart (is-of x.home.0 home.0 a)))

names-above : (x : BufId) (home : CoreId) (n : ℕ) → n ≤ x.slot → weigh (one_if x) (all_names home n) ≡ 0
names-above x home zero le = refl
names-above x home (suc n) le =
    omega (arith, sum_by_push (one_if x) (all_names home n) (unused home n), names-above x home n (omega (arith, le)), counts-none (x.home.0 == home.0) (x.slot == n) (λ a b. absurd (omega (arith, le, is-of x.slot n b))))

clash : true ≡ false → ⊥
clash e = absurd (omega (arith, ap (λ (u : Bool). (let k : ℕ = (if u then 1 else 0) in k)) e))

last-once : (x : BufId) (home : CoreId) (n : ℕ) (t : Bool) → (x.slot == n) ≡ t → weigh (one_if x) (all_names home n) ≤ 1 → weigh (one_if x) (all_names home (suc n)) ≤ 1
last-once x home n true e before =
    omega (arith, sum_by_push (one_if x) (all_names home n) (unused home n), names-above x home n (omega (arith, is-of x.slot n e)), counts-few (x.home.0 == home.0 && x.slot == n))
last-once x home n false e before =
    omega (arith, sum_by_push (one_if x) (all_names home n) (unused home n), before, counts-none (x.home.0 == home.0) (x.slot == n) (λ a b. clash (sym b ∙ e)))

names-once : (x : BufId) (home : CoreId) (n : ℕ) → weigh (one_if x) (all_names home n) ≤ 1
names-once x home zero = omega arith
names-once x home (suc n) = last-once x home n (x.slot == n) refl (names-once x home n)

apart-of : (a b : ℕ) → (a == b) ≡ false → a ≢ b
apart-of a b e = grind (arith, nat_tests)

module _ {U E : Type 0} where
  made-none : (x : BufId) (k : ℕ) (cores : List (Core U E)) → ((c : ℕ) (d : Core U E) → c < length cores → (get_or cores c d).pool.home.0 ≡ k + c) → x.home.0 < k → made cores (one_if x) ≡ 0
  made-none x k [] numbers lt = refl
  made-none x k (c ∷ cores) numbers lt =
      omega (
        arith,
        sum_by-cons (λ (y : Core U E). weigh (one_if x) (all_names y.pool.home y.pool.n)) c cores,
        names-off x c.pool.home c.pool.n (λ is. absurd (omega (arith, lt, is, numbers 0 c (omega arith)))),
        made-none x (suc k) cores (λ i d below. numbers (suc i) d (omega (arith, below)) ∙ omega arith) (omega (arith, lt)),
      )

  first-once : (x : BufId) (k : ℕ) (c : Core U E) (cores : List (Core U E)) (t : Bool) → (x.home.0 == c.pool.home.0) ≡ t → c.pool.home.0 ≡ k
      → ((i : ℕ) (d : Core U E) → i < length cores → (get_or cores i d).pool.home.0 ≡ suc k + i) → made cores (one_if x) ≤ 1 → made (c ∷ cores) (one_if x) ≤ 1
  first-once x k c cores true e is numbers rest =
      omega (
        arith,
        sum_by-cons (λ (y : Core U E). weigh (one_if x) (all_names y.pool.home y.pool.n)) c cores,
        names-once x c.pool.home c.pool.n,
        made-none x (suc k) cores numbers (omega (arith, is-of x.home.0 c.pool.home.0 e, is)),
      )
  first-once x k c cores false e is numbers rest =
      omega (
        arith,
        sum_by-cons (λ (y : Core U E). weigh (one_if x) (all_names y.pool.home y.pool.n)) c cores,
        names-off x c.pool.home c.pool.n (apart-of x.home.0 c.pool.home.0 e),
        rest,
      )

  made-once : (x : BufId) (k : ℕ) (cores : List (Core U E)) → ((c : ℕ) (d : Core U E) → c < length cores → (get_or cores c d).pool.home.0 ≡ k + c) → made cores (one_if x) ≤ 1
  made-once x k [] numbers = omega arith
  made-once x k (c ∷ cores) numbers =
      first-once x k c cores (x.home.0 == c.pool.home.0) refl (numbers 0 c (omega arith) ∙ omega arith) (λ i d below. numbers (suc i) d (omega (arith, below)) ∙ omega arith)
      (made-once x (suc k) cores (λ i d below. numbers (suc i) d (omega (arith, below)) ∙ omega arith))

  desks-below : (w : U → ℕ) (f : Name → ℕ) (cores : List (Core U E)) → sum_by (λ c. desks_weight w f c.desks) cores ≤ sum_by (core_weight w f) cores
  desks-below w f [] = omega arith
  desks-below w f (c ∷ cores) =
      omega (arith, sum_by-cons (λ (y : Core U E). desks_weight w f y.desks) c cores, sum_by-cons (core_weight w f) c cores, one, desks-below w f cores)
    where
      one : desks_weight w f c.desks ≤ core_weight w f c
      one = omega arith

module _ {U E : Type 0} (drained : U → List Buffer → U → Type 0) (weight : (Name → ℕ) → U → ℕ) where
  pub buffers-are-once : BuffersAreOnce U E drained weight
  buffers-are-once card cores home id =
      omega (arith, home.same (λ i. if same_id id i then 1 else 0), made-once id 0 cores (λ c d lt. home.ready.order.numbers c d lt ∙ omega arith), desks-below (weight (one_if id)) (one_if id) cores)
