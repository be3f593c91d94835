-- The checksum by steps, and that a written checksum is right.
use Rattle.std.proofs.Common.{◌≡◌, ℕ, zero, suc, ◌+◌, ◌*◌, ◌/◌, ◌%◌, ◌-◌, ◌<◌, ◌≤◌, List, [], ◌∷◌, ◌++◌, length, get_or, take, drop, refl, ap, sym, ◌∙◌, arith}
use Rattle.std.proofs.lemmas.List.{take_rest}
use Rattle.std.proofs.lemmas.Bool.Decides.{nat_tests}
use Rattle.ix_ip.specs.Sum.{carried, word_sum, pseudo_header}

-- a number with its carries put back in: equal modulo 65535, at most 65535, and 0 only for 0
pub record IsCarried (n s : ℕ) : Type 0 where
  pub carries : ℕ
  pub equal : n ≡ s + 65535 * carries
  pub below : s ≤ 65535
  pub not_zero : 0 < n → 0 < s

carried_zero : carried 0 ≡ 0
unfolding carried
carried_zero = refl

carried_suc : (n : ℕ) → carried (suc n) ≡ n % 65535 + 1
unfolding carried
carried_suc n = grind (arith, nat_tests)

pub carried_is : (n s k : ℕ) → n ≡ s + 65535 * k → s ≤ 65535 → (0 < n → 0 < s) → carried n ≡ s
carried_is zero s k e below pos = omega (arith, carried_zero)
carried_is (suc n) s k e below pos = omega (arith, carried_suc n, pos)

pub carried_carries : (n : ℕ) → IsCarried n (carried n)
carried_carries zero = record { carries = 0; equal = omega (arith, carried_zero); below = omega (arith, carried_zero); not_zero = λ h. omega arith }
carried_carries (suc n) = record {
  carries = n / 65535;
  equal = omega (arith, carried_suc n);
  below = omega (arith, carried_suc n);
  not_zero = λ h. omega (arith, carried_suc n);
}

pub carried-below : (n : ℕ) → carried n ≤ 65535
carried-below n = (carried_carries n).below

-- a sum below 65536 carries nothing
pub carried-small : (n : ℕ) → n ≤ 65535 → carried n ≡ n
carried-small n h = carried_is n n 0 (omega arith) h (λ p. p)

more_not_zero : (n s m t : ℕ) → (0 < n → 0 < s) → (0 < s + m → 0 < t) → 0 < n + m → 0 < t
more_not_zero zero s m t first second pos = second (omega arith)
more_not_zero (suc n) s m t first second pos = let here : 0 < s = first (omega arith) in second (omega arith)

IsCarried-more : (n s m t : ℕ) → IsCarried n s → IsCarried (s + m) t → IsCarried (n + m) t
IsCarried-more n s m t first second = record {
  carries = first.carries + second.carries;
  equal = omega (arith, first.equal, second.equal);
  below = second.below;
  not_zero = more_not_zero n s m t first.not_zero second.not_zero;
}

-- carries may be put back in at any time
pub carried-more : (n m : ℕ) → carried (carried n + m) ≡ carried (n + m)
carried-more n m =
    let both = IsCarried-more n (carried n) m (carried (carried n + m)) (carried_carries n) (carried_carries (carried n + m)) in
    sym (carried_is (n + m) (carried (carried n + m)) both.carries both.equal both.below both.not_zero)

-- the carry of two words goes back in at the low end
pub carried-two : (a b : ℕ) → a ≤ 65535 → b ≤ 65535 → carried (a + b) ≡ (a + b) % 65536 + (a + b) / 65536
carried-two a b ha hb = carried_is (a + b) _ ((a + b) / 65536) (omega arith) (omega arith) (λ p. omega arith)

pub ruleset carried_steps = (carried-two)

-- a sum and the complement of what it carries to are all ones
pub carried-complement : (n c : ℕ) → c ≡ 65535 - carried n → carried (n + c) ≡ 65535
carried-complement n c e =
    let here = carried_carries n in
    carried_is (n + c) 65535 here.carries (omega (arith, here.equal, here.below)) (omega arith) (λ p. omega arith)

-- all ones stand for zero, but in a sum of nothing
pub carried-ones : (n : ℕ) → carried n ≡ 65535 → carried (n + 65535) ≡ 65535
carried-ones n e =
    let here = carried_carries n in
    carried_is (n + 65535) 65535 (here.carries + 1) (omega (arith, here.equal)) (omega arith) (λ p. omega arith)

word_sum-two : (xs : List ℕ) → 2 ≤ length xs → word_sum xs ≡ 256 * get_or xs 0 0 + get_or xs 1 0 + word_sum (drop 2 xs)
unfolding word_sum
word_sum-two [] h = absurd (omega arith)
word_sum-two (a ∷ []) h = absurd (omega arith)
word_sum-two (a ∷ b ∷ rest) h = refl

-- two bytes are summed
word_sum-step : (xs : List ℕ) → 2 ≤ length xs → word_sum xs ≡ 256 * get_or xs 0 0 + get_or xs 1 0 + word_sum (take (length xs - 2) (drop 2 xs))
word_sum-step xs h = rw (take_rest xs 2) (word_sum-two xs h)

-- an odd end
word_sum-one : (xs : List ℕ) → 1 ≤ length xs → length xs < 2 → word_sum xs ≡ 256 * get_or xs 0 0
unfolding word_sum
word_sum-one [] h k = absurd (omega arith)
word_sum-one (a ∷ []) h k = refl
word_sum-one (a ∷ b ∷ rest) h k = absurd (omega arith)

-- no bytes
pub word_sum-none : (xs : List ℕ) → length xs < 1 → word_sum xs ≡ 0
unfolding word_sum
word_sum-none [] h = refl
word_sum-none (a ∷ rest) h = absurd (omega arith)

-- the loop's step
pub next_word : (sum w s : ℕ) (xs : List ℕ) (total : ℕ) → 2 ≤ length xs → w ≡ 256 * get_or xs 0 0 + get_or xs 1 0 → s ≡ carried (sum + w)
    → carried (sum + word_sum xs) ≡ total → carried (s + word_sum (take (length xs - 2) (drop 2 xs))) ≡ total
next_word sum w s xs total two is step whole =
    let rest = word_sum (take (length xs - 2) (drop 2 xs)) in
    let parts : sum + w + rest ≡ sum + word_sum xs = omega (arith, word_sum-step xs two) in
    ap (λ n. carried (n + rest)) step ∙ carried-more (sum + w) rest ∙ ap carried parts ∙ whole

pub last_word : (sum w s : ℕ) (xs : List ℕ) (total : ℕ) → 1 ≤ length xs → length xs < 2 → w ≡ 256 * get_or xs 0 0 → s ≡ carried (sum + w)
    → carried (sum + word_sum xs) ≡ total → s ≡ total
last_word sum w s xs total one short is step whole =
    step ∙ ap carried (let e : sum + w ≡ sum + word_sum xs = omega (arith, word_sum-one xs one short) in e) ∙ whole

pub no_word : (sum : ℕ) (xs : List ℕ) (total : ℕ) → length xs < 1 → sum ≤ 65535 → carried (sum + word_sum xs) ≡ total → sum ≡ total
no_word sum xs total none small whole =
    sym (carried-small sum small) ∙ ap carried (let e : sum ≡ sum + word_sum xs = omega (arith, word_sum-none xs none) in e) ∙ whole

-- bytes in two pieces, the first of an even length
pub word_sum-append : (xs ys : List ℕ) (k : ℕ) → length xs ≡ k + k → word_sum (xs ++ ys) ≡ word_sum xs + word_sum ys
unfolding word_sum
word_sum-append [] ys k even = omega arith
word_sum-append (a ∷ []) ys k even = absurd (omega arith)
word_sum-append (a ∷ b ∷ rest) ys k even = omega (arith, word_sum-append rest ys (k - 1) (omega arith))

-- what is summed in two pieces is summed as one
pub carried-append : (xs ys : List ℕ) (k : ℕ) → length xs ≡ k + k → carried (carried (word_sum xs) + word_sum ys) ≡ carried (word_sum (xs ++ ys))
carried-append xs ys k even = carried-more (word_sum xs) (word_sum ys) ∙ ap carried (sym (word_sum-append xs ys k even))

-- bytes behind their pseudo header
pub carried-pseudo : (src dst protocol len : ℕ) (bytes : List ℕ)
    → carried (carried (word_sum (pseudo_header src dst protocol len)) + word_sum bytes) ≡ carried (word_sum (pseudo_header src dst protocol len ++ bytes))
carried-pseudo src dst protocol len bytes = carried-append (pseudo_header src dst protocol len) bytes 6 refl
