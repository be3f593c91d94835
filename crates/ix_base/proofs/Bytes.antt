-- A read of the front of what is left.
use Rattle.std.proofs.Common.{◌≡◌, ℕ, ◌+◌, List, ◌++◌, length, take, drop, sym, ◌∙◌, ap, arith, take-append-drop}
use Rattle.std.proofs.lemmas.List.{take-append-le, take_all, drop-drop}

pub front_taken : (bytes front rest : List ℕ) (at n : ℕ) → front ≡ take n (drop at bytes) → length front ≡ n → drop at bytes ≡ take n (front ++ rest) ++ drop (at + n) bytes
front_taken bytes front rest at n is size =
    let whole : take n (front ++ rest) ≡ take n (drop at bytes) = take-append-le n front rest (omega arith) ∙ take_all n front (omega arith) ∙ is in
    sym (take-append-drop n (drop at bytes)) ∙ ap (λ (l : List ℕ). take n (drop at bytes) ++ l) (drop-drop n at bytes) ∙ ap (λ (l : List ℕ). l ++ drop (at + n) bytes) (sym whole)
