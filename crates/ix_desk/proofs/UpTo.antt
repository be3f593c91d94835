-- The first items, until n of them count.
use Rattle.std.proofs.Common.{◌≡◌, ℕ, zero, suc, ◌+◌, ◌-◌, ◌<◌, ◌≤◌, Bool, true, false, List, [], ◌∷◌, ◌++◌, refl, arith, ap, append_assoc, append-nil, count_by}
use Rattle.std.proofs.lemmas.Grind.{common_steps}
use Rattle.std.specs.Prelude.{if◌then◌else◌}
use Rattle.ix_desk.specs.Steps.{up_to}

pub up_to_nil : {I : Type 0} (counted : I → Bool) (n : ℕ) → up_to counted n [] ≡ []
up_to_nil counted zero = refl
up_to_nil counted (suc n) = refl

pub up_to_more : {I : Type 0} (counted : I → Bool) (left after : ℕ) (x : I) (xs : List I) → 0 < left
    → after ≡ (if counted x then left - 1 else left) → up_to counted left (x ∷ xs) ≡ x ∷ up_to counted after xs
up_to_more counted zero after x xs p e = absurd (omega arith)
up_to_more counted (suc k) after x xs p e =
    let rest : (if counted x then k else suc k) ≡ after =
    elim (counted x) as (λ b. after ≡ (if b then suc k - 1 else suc k) → (if b then k else suc k) ≡ after) [ true ↦ (λ q. omega arith) | false ↦ (λ q. omega arith) ] e in
    ap (λ n. x ∷ up_to counted n xs) rest

-- a batch that has all its items
pub batch_done : {I : Type 0} (counted : I → Bool) (left : ℕ) (whole done ws : List I)
    → whole ≡ done ++ up_to counted left ws → left ≤ 0 → done ≡ whole
batch_done counted zero whole done ws e p = grind (arith, append-nil)
batch_done counted (suc n) whole done ws e p = absurd (omega arith)

-- a batch for which nothing is left
pub batch_out : {I : Type 0} (counted : I → Bool) (left : ℕ) (whole done ws : List I)
    → whole ≡ done ++ up_to counted left ws → ws ≡ [] → done ≡ whole
batch_out counted left whole done ws e p = let none = up_to_nil counted left in grind (arith, append-nil)

-- a batch that gets its next item
pub batch_more : {I : Type 0} (counted : I → Bool) (left after : ℕ) (x : I) (whole done ws rest : List I)
    → whole ≡ done ++ up_to counted left ws → ws ≡ x ∷ rest → 0 < left → after ≡ (if counted x then left - 1 else left)
    → whole ≡ (done ++ x ∷ []) ++ up_to counted after rest
batch_more counted left after x whole done ws rest e q p c = let more = up_to_more counted left after x rest p c in grind (arith, append_assoc)

-- the budget of a batch that gets its next item
pub count_more : {I : Type 0} (counted : I → Bool) (left after budget : ℕ) (x : I) (done : List I)
    → left + count_by counted done ≡ budget → 0 < left → after ≡ (if counted x then left - 1 else left) → after + count_by counted (done ++ x ∷ []) ≡ budget
count_more counted left after budget x done e p c = grind (arith, common_steps)
