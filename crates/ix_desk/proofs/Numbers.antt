-- Numbers that are at most another.
use Rattle.std.proofs.Common.{◌≡◌, ℕ, ◌<◌, ◌≤◌, false, List, [], ◌∷◌, ◌++◌, refl, arith}
use Rattle.std.proofs.lemmas.Bool.Decides.{nat_tests}
use Rattle.ix_desk.specs.Tenures.{has_arrived, AtMost}

pub at_most_more : (m n k : ℕ) (ks : List ℕ) → AtMost m ks → m ≤ n → k ≤ n → AtMost n (ks ++ k ∷ [])
at_most_more m n k [] all p q = (q, tt)
at_most_more m n k (j ∷ js) all p q = (let r = all.0 in omega arith, at_most_more m n k js all.1 p q)

pub none_above : (m k : ℕ) (ks : List ℕ) → AtMost m ks → m < k → has_arrived k ks ≡ false
none_above m k [] all p = refl
none_above m k (j ∷ js) all p = let rest = none_above m k js all.1 p in let r = all.0 in grind (arith, nat_tests)
