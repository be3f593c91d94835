-- A front of a front.
use Rattle.std.proofs.Common.{◌≡◌, ◌<◌, ◌≤◌, ℕ, List, ◌++◌, length, take, drop, refl, sym, ap, ◌∙◌}
use Rattle.std.specs.Prelude.{Result, Ok, Err, IfOk}
use Rattle.std.proofs.lemmas.List.{take-append-drop, take-append-le}
use Rattle.ix_base.specs.Host.{front}

pub front-of-front : {E : Type 0} → (result : Result ℕ E) (k : ℕ) (bytes : List ℕ) → IfOk result (λ n. (0 < n) × (n ≤ length (take k bytes))) → front result (take k bytes) ≡ front result bytes
front-of-front (Ok n) k bytes bound = sym (take-append-le n (take k bytes) (drop k bytes) bound.1) ∙ ap (take n) (take-append-drop k bytes)
front-of-front (Err e) k bytes bound = refl
