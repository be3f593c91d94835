-- Buffers that go to the pool.
use Rattle.std.proofs.Common.{◌≡◌, ◌<◌, ◌+◌, ℕ, false, List, [], ◌∷◌, ◌++◌, length, get_or, drop, sum_by, sym, ap, subst, ◌∙◌, arith, length-drop}
use Rattle.std.specs.Prelude.{All}
use Rattle.std.specs.List.{remove}
use Rattle.std.proofs.lemmas.Bool.Decides.{nat_tests}
use Rattle.std.proofs.lemmas.List.{get_or-drop}
use Rattle.std.proofs.lemmas.List.Sums.{sum_by_push, sum_by-remove}
use Rattle.std.proofs.lemmas.List.Edits.{get_or-remove_above, length-remove}
use Rattle.ix_base.specs.declared.id.BufId.{BufId}
use Rattle.ix_mbuf.specs.declared.name.Name.{Name}
use Rattle.ix_mbuf.specs.Buffers.{Buffer, buffers_weight}
use Rattle.ix_mbuf.specs.Owners.{times, one_if}
use Rattle.ix_mbuf.specs.Pools.{is_out_of}

pub back-weight : (f : Name → ℕ) (free : List Name) (xs : List Buffer) (i : ℕ) (b : Buffer) → i < length xs → b ≡ get_or xs i b
    → sum_by f (free ++ b.name ∷ []) + buffers_weight f (remove xs i) ≡ sum_by f free + buffers_weight f xs
back-weight f free xs i b lt read =
    let one : f b.name ≡ f (get_or xs i b).name = ap (λ (z : Buffer). f z.name) read in
    omega (arith, sum_by_push f free b.name, sum_by-remove (λ (z : Buffer). f z.name) xs i b lt, one)

-- what isn't out stays so where a buffer is given
pub stays-in : (home : _) (n : ℕ) (free : List Name) (given : Name) (id : BufId) → is_out_of (record { home = home; n = n; free = free }) id ≡ false
    → is_out_of (record { home = home; n = n; free = free ++ given ∷ [] }) id ≡ false
stays-in home n free given id e =
    let more : times id (free ++ given ∷ []) ≡ times id free + one_if id given = sum_by_push (one_if id) free given in
    grind (arith, nat_tests)

pub all-behind : (P Q : Buffer → Type 0) (xs : List Buffer) (i j : ℕ) → i < length xs → j ≡ i + 1 → ((b : Buffer) → P b → Q b) → All P (drop j xs) → All Q (drop i (remove xs i))
all-behind P Q xs i j lt is weaker all = λ k d le.
    let within : k < length (drop j xs) = omega (arith, length-drop j xs, length-drop i (remove xs i), length-remove xs i lt) in
    let place : get_or xs (j + k) d ≡ get_or xs ((i + k) + 1) d = ap (λ n. get_or xs n d) (omega arith) in
    let same : get_or (drop j xs) k d ≡ get_or (drop i (remove xs i)) k d =
    get_or-drop j xs k d ∙ place ∙ sym (get_or-remove_above xs i d (i + k) (omega arith) lt) ∙ sym (get_or-drop i (remove xs i) k d) in
    weaker _ (subst P same (all k d within))
