-- The first free port.
use Rattle.std.proofs.Common.{◌≡◌, ◌<◌, ◌+◌, ℕ, zero, suc, Bool, true, false, None, Some, refl, ap, subst, ◌∙◌, arith}
use Rattle.std.specs.Prelude.{Option}
use Rattle.ix_base.specs.Branches.{if_true, if_false}
use Rattle.ix_fits.specs.Connects.{free_port}

pub first-is : (free : ℕ → Bool) (port n step : ℕ) → step < n → free (port + step) ≡ true → ((k : ℕ) → k < step → free (port + k) ≡ false) → free_port free port n ≡ Some (port + step)
unfolding free_port
first-is free port zero step lt here before = absurd (omega arith)
first-is free port (suc n) zero lt here before =
    let none : port + 0 ≡ port = omega arith in
    if_true (free port) (Some port) (free_port free (port + 1) n) (subst (λ (k : ℕ). free k ≡ true) none here) ∙ ap (λ (k : ℕ). (let o : Option ℕ = Some k in o)) (let back : port ≡ port + 0 = omega arith in back)
first-is free port (suc n) (suc k) lt here before =
    let none : port + 0 ≡ port = omega arith in
    let on : port + suc k ≡ port + 1 + k = omega arith in
    let back : port + 1 + k ≡ port + suc k = omega arith in
    if_false (free port) (Some port) (free_port free (port + 1) n) (subst (λ (j : ℕ). free j ≡ false) none (before 0 (omega arith)))
    ∙ first-is free (port + 1) n k (omega arith) (subst (λ (j : ℕ). free j ≡ true) on here)
    (λ j below. let step : port + suc j ≡ port + 1 + j = omega arith in subst (λ (i : ℕ). free i ≡ false) step (before (suc j) (omega (arith, below))))
    ∙ ap (λ (j : ℕ). (let o : Option ℕ = Some j in o)) back

pub none-is : (free : ℕ → Bool) (port n : ℕ) → ((k : ℕ) → k < n → free (port + k) ≡ false) → free_port free port n ≡ None
unfolding free_port
none-is free port zero before = refl
none-is free port (suc n) before =
    let none : port + 0 ≡ port = omega arith in
    if_false (free port) (Some port) (free_port free (port + 1) n) (subst (λ (j : ℕ). free j ≡ false) none (before 0 (omega arith)))
    ∙ none-is free (port + 1) n (λ j below. let step : port + suc j ≡ port + 1 + j = omega arith in subst (λ (i : ℕ). free i ≡ false) step (before (suc j) (omega (arith, below))))
