use Rattle.std.proofs.Common.{◌≡◌, ℕ, ◌+◌, ◌*◌, ◌%◌, ◌^◌, ◌≤◌, ◌<◌, Bool, true, false, List, [], ◌∷◌, length, if◌then◌else◌, refl, arith}
use Rattle.std.specs.Prelude.{◌/◌}
use Rattle.std.proofs.Math.Nat.{div-add-mod}
use Rattle.std.proofs.lemmas.List.Sums.{sum_by-cons}
use Rattle.std.proofs.lemmas.Bool.Decides.{nat_tests}
use Rattle.ix_base.specs.declared.id.BufId.{BufId}
use Rattle.ix_mbuf.specs.declared.name.Name.{Name}
use Rattle.ix_mbuf.specs.Buffers.{next_use}
use Rattle.ix_mbuf.specs.Owners.{one_if, same_id, times, weigh}
use Rattle.ix_uses.specs.Uses.{BuffersStay, NoUseComesBack, is_name, one_name}

pub buffers-stay : BuffersStay
buffers-stay names held held' filled f = omega (arith, filled.weight (λ x. f x.id))

-- ## One buffer's uses
-- how often it is in use, and how often that goes past the end of its count
uses_at : BufId → Name → ℕ
uses_at i y = if same_id i y.id then y.uses else 0

wraps_at : BufId → Name → ℕ
wraps_at i y = if same_id i y.id then (y.uses + 1) / (2 ^ 32) else 0

-- one more use of it
fill-one : (b : Bool) (n : ℕ) → (if b then (n + 1) % (2 ^ 32) else 0) + (2 ^ 32) * (if b then (n + 1) / (2 ^ 32) else 0) ≡ (if b then n else 0) + (if b then 1 else 0)
fill-one true n = omega (arith, div-add-mod (n + 1) (2 ^ 32))
fill-one false n = omega arith

fill-all : (i : BufId) (names : List Name)
    → weigh (λ y. uses_at i (next_use y)) names + (2 ^ 32) * weigh (wraps_at i) names ≡ weigh (uses_at i) names + times i names
unfolding uses_at wraps_at
fill-all i [] = omega arith
fill-all i (y ∷ ys) =
    omega (
      arith,
      fill-all i ys,
      fill-one (same_id i y.id) y.uses,
      sum_by-cons (λ (z : Name). uses_at i (next_use z)) y ys,
      sum_by-cons (wraps_at i) y ys,
      sum_by-cons (uses_at i) y ys,
      sum_by-cons (one_if i) y ys,
    )

-- it stands in a list as often as the list is long, at most
one-le : (b : Bool) → (if b then 1 else 0) ≤ 1
one-le true = omega arith
one-le false = omega arith

times-le-length : (i : BufId) (names : List Name) → times i names ≤ length names
times-le-length i [] = omega arith
times-le-length i (y ∷ ys) = omega (arith, times-le-length i ys, one-le (same_id i y.id), sum_by-cons (one_if i) y ys)

-- what isn't there has no uses, nor one
none-uses : (i : BufId) (names : List Name) → times i names ≡ 0 → weigh (uses_at i) names ≡ 0
unfolding uses_at
none-uses i [] e = refl
none-uses i (y ∷ ys) e =
    let none : one_if i y ≡ 0 = omega (arith, e, sum_by-cons (one_if i) y ys) in
    let rest = none-uses i ys (omega (arith, e, sum_by-cons (one_if i) y ys)) in
    let here : uses_at i y ≡ 0 = grind (arith, nat_tests) in
    omega (arith, here, rest, sum_by-cons (uses_at i) y ys)

name-le : (x y : Name) → one_name x y ≤ one_if x.id y
name-le x y = grind (arith, nat_tests)

names-le : (x : Name) (names : List Name) → weigh (one_name x) names ≤ times x.id names
names-le x [] = omega arith
names-le x (y ∷ ys) = omega (arith, names-le x ys, name-le x y, sum_by-cons (one_name x) y ys, sum_by-cons (one_if x.id) y ys)

-- What is held once, in this use, is in use so often: it stands at the head, or behind it.
uses-head : (x y : Name) (ys : List Name) (b : Bool) → is_name x y ≡ b → times x.id (y ∷ ys) ≤ 1 → 1 ≤ weigh (one_name x) (y ∷ ys)
    → (times x.id ys ≤ 1 → 1 ≤ weigh (one_name x) ys → weigh (uses_at x.id) ys ≡ x.uses) → weigh (uses_at x.id) (y ∷ ys) ≡ x.uses
unfolding uses_at
uses-head x y ys true e few one behind =
    let same : uses_at x.id y ≡ x.uses = grind (arith, nat_tests) in
    let here : one_if x.id y ≡ 1 = grind (arith, nat_tests) in
    let rest = none-uses x.id ys (omega (arith, few, here, sum_by-cons (one_if x.id) y ys)) in
    omega (arith, same, rest, sum_by-cons (uses_at x.id) y ys)
uses-head x y ys false e few one behind =
    let none : one_name x y ≡ 0 = grind (arith, nat_tests) in
    let later : 1 ≤ weigh (one_name x) ys = omega (arith, one, none, sum_by-cons (one_name x) y ys) in
    let other : one_if x.id y ≡ 0 = omega (arith, few, later, names-le x ys, sum_by-cons (one_if x.id) y ys) in
    let nothing : uses_at x.id y ≡ 0 = grind (arith, nat_tests) in
    omega (arith, nothing, behind (omega (arith, few, sum_by-cons (one_if x.id) y ys)) later, sum_by-cons (uses_at x.id) y ys)

uses-of : (x : Name) (names : List Name) → times x.id names ≤ 1 → 1 ≤ weigh (one_name x) names → weigh (uses_at x.id) names ≡ x.uses
uses-of x [] few one = absurd (omega (arith, one))
uses-of x (y ∷ ys) few one = uses-head x y ys (is_name x y) refl few one (uses-of x ys)

-- ## The law
-- a multiple of 2^32 that is below it
none-below : (n k : ℕ) → n ≡ (2 ^ 32) * k → n < 2 ^ 32 → n ≡ 0
none-below n k e lt = omega (arith, e, lt)

pub no-use-comes-back : NoUseComesBack
no-use-comes-back names held held' before after filled few x once now then_ =
    let one : times x.id before.names ≤ 1 = omega (arith, once, before.sum (one_if x.id)) in
    let one' : times x.id after.names ≤ 1 = omega (arith, once, before.sum (one_if x.id), after.sum (one_if x.id), filled.weight (one_if x.id)) in
    let uses = uses-of x before.names one (omega (arith, now, before.sum (one_name x))) in
    let uses' = uses-of x after.names one' (omega (arith, then_, after.sum (one_name x))) in
    none-below (times x.id names) (weigh (wraps_at x.id) names)
    (omega (arith, uses, uses', before.sum (uses_at x.id), after.sum (uses_at x.id), filled.weight (uses_at x.id), fill-all x.id names))
    (omega (arith, few, times-le-length x.id names))
