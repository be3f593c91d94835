-- Sums that are capped.
use Rattle.std.proofs.Common.{◌≡◌, ℕ, zero, suc, ◌+◌, ◌-◌, ◌^◌, ◌<◌, ◌≤◌, List, length, get_or, drop, refl, ap, sym, ◌∙◌, arith, Bool, true, false}
use Rattle.std.specs.Prelude.{nat_lt}
use Rattle.std.proofs.lemmas.Bool.Decides.{nat_tests}
use Rattle.std.proofs.lemmas.List.{drop_all, drop_more}
use Rattle.ix_gen.specs.Summary.{capped, total}

-- a number that fits is itself
pub capped_fits : (n : ℕ) → n < 2 ^ 64 → capped n ≡ n
unfolding capped
capped_fits n h = let fits : nat_lt n (2 ^ 64) ≡ true = grind (arith, nat_tests) in rw fits refl

pub capped_most : (n : ℕ) → 2 ^ 64 ≤ n → capped n ≡ 2 ^ 64 - 1
unfolding capped
capped_most n h = let over : nat_lt n (2 ^ 64) ≡ false = grind (arith, nat_tests) in rw over refl

-- it makes no difference to cap a part of a sum first
capped_both : (n m : ℕ) → 2 ^ 64 ≤ n → capped (2 ^ 64 - 1 + m) ≡ capped (n + m)
capped_both n zero over =
    capped_fits (2 ^ 64 - 1 + 0) (omega arith) ∙ (let e : 2 ^ 64 - 1 + 0 ≡ 2 ^ 64 - 1 = omega arith in e) ∙ sym (capped_most (n + 0) (omega arith))
capped_both n (suc m) over = capped_most (2 ^ 64 - 1 + suc m) (omega arith) ∙ sym (capped_most (n + suc m) (omega arith))

pub capped_part : (n m : ℕ) → capped (capped n + m) ≡ capped (n + m)
capped_part n m = go (nat_lt n (2 ^ 64)) refl where
  go : (b : Bool) → nat_lt n (2 ^ 64) ≡ b → capped (capped n + m) ≡ capped (n + m)
  go true e = ap (λ k. capped (k + m)) (capped_fits n (grind (arith, nat_tests)))
  go false e =
      let over : 2 ^ 64 ≤ n = grind (arith, nat_tests) in
      ap (λ k. capped (k + m)) (capped_most n over) ∙ capped_both n m over

-- one element more, and none left
pub capped_step : (n x t : ℕ) → capped (capped (n + x) + t) ≡ capped (n + (x + t))
capped_step n x t = capped_part (n + x) t ∙ ap capped (let e : n + x + t ≡ n + (x + t) = omega arith in e)

pub capped_start : (n : ℕ) → capped (0 + n) ≡ capped n
capped_start n = ap capped (let e : 0 + n ≡ n = omega arith in e)

pub capped_end : (n : ℕ) → n < 2 ^ 64 → capped (n + 0) ≡ n
capped_end n h = ap capped (let e : n + 0 ≡ n = omega arith in e) ∙ capped_fits n h

pub capped_below : (n : ℕ) → capped n < 2 ^ 64
capped_below n = go (nat_lt n (2 ^ 64)) refl where
  go : (b : Bool) → nat_lt n (2 ^ 64) ≡ b → capped n < 2 ^ 64
  go true e = let fits : n < 2 ^ 64 = grind (arith, nat_tests) in omega (arith, capped_fits n fits)
  go false e = let over : 2 ^ 64 ≤ n = grind (arith, nat_tests) in omega (arith, capped_most n over)

-- a loop that adds up what f gives: a step, and the end
pub loop_step : {A : Type 0} (f : A → ℕ) (xs : List A) (i told part new start : ℕ) (d : A) → i < length xs → part ≡ f (get_or xs i d)
    → new ≡ capped (told + part) → capped (told + total f (drop i xs)) ≡ start → capped (new + total f (drop (i + 1) xs)) ≡ start
loop_step f xs i told part new start d lt one more so_far =
    ap (λ n. capped (n + total f (drop (i + 1) xs))) (more ∙ ap (λ k. capped (told + k)) one)
    ∙ capped_step told (f (get_or xs i d)) (total f (drop (i + 1) xs))
    ∙ ap (λ ys. capped (told + total f ys)) (sym (drop_more xs i d lt))
    ∙ so_far

pub loop_new : (new told part : ℕ) → new ≡ capped (told + part) → new < 2 ^ 64
loop_new new told part is = omega (arith, is, capped_below (told + part))

pub loop_end : {A : Type 0} (f : A → ℕ) (xs : List A) (i told start : ℕ) → length xs ≤ i → told < 2 ^ 64
    → capped (told + total f (drop i xs)) ≡ start → told ≡ start
loop_end f xs i told start done small so_far =
    sym (capped_end told small) ∙ ap (λ ys. capped (told + total f ys)) (sym (drop_all i xs done)) ∙ so_far
