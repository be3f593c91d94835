-- Histories that follow one another.
use Rattle.std.proofs.Common.{List, [], ◌∷◌, ◌++◌, subst}
use Rattle.ix_history.specs.Runs.{Runs}

module _ {S E : Type 0} (Step : S → E → S → Type 0) where
  pub runs-join : (x y z : S) (es fs : List E) → Runs Step x es y → Runs Step y fs z → Runs Step x (es ++ fs) z
  runs-join x y z [] fs r s = subst (λ w. Runs Step w fs z) r s
  runs-join x y z (e ∷ es) fs r s = (r.0, r.1, runs-join r.0 y z es fs r.2 s)
