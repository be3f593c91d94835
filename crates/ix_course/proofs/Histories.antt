-- One history behind another.
use Rattle.std.proofs.Common.{◌≡◌, ◌==◌, ℕ, Bool, true, false, List, [], ◌∷◌, ◌++◌, refl, ap, subst}
use Rattle.std.specs.Prelude.{if◌then◌else◌}
use Rattle.ix_history.specs.Events.{Event, came, gone, lent, took, worked}
use Rattle.ix_history.specs.Items.{came_from, gone_to, taken_in}
use Rattle.ix_history.specs.Runs.{Runs}

if-cons : {X : Type 0} (b : Bool) (x : X) (both left right : List X) → both ≡ left ++ right → (if b then x ∷ both else both) ≡ (if b then x ∷ left else left) ++ right
if-cons true x both left right e = ap (λ l. x ∷ l) e
if-cons false x both left right e = e

module _ {U I O : Type 0} where
  pub taken-append : (es fs : List (Event U I O)) → taken_in (es ++ fs) ≡ taken_in es ++ taken_in fs
  taken-append [] fs = refl
  taken-append (took x ∷ es) fs = ap (λ l. x ∷ l) (taken-append es fs)
  taken-append (came c s ∷ es) fs = taken-append es fs
  taken-append (worked max ∷ es) fs = taken-append es fs
  taken-append (gone s ∷ es) fs = taken-append es fs
  taken-append (lent h u out v ∷ es) fs = taken-append es fs

  pub gone-append : (d : ℕ) (es fs : List (Event U I O)) → gone_to d (es ++ fs) ≡ gone_to d es ++ gone_to d fs
  gone-append d [] fs = refl
  gone-append d (took x ∷ es) fs = gone-append d es fs
  gone-append d (came c s ∷ es) fs = gone-append d es fs
  gone-append d (worked max ∷ es) fs = gone-append d es fs
  gone-append d (gone s ∷ es) fs = if-cons (s.to == d) s (gone_to d (es ++ fs)) (gone_to d es) (gone_to d fs) (gone-append d es fs)
  gone-append d (lent h u out v ∷ es) fs = gone-append d es fs

  pub came-append : (c : ℕ) (es fs : List (Event U I O)) → came_from c (es ++ fs) ≡ came_from c es ++ came_from c fs
  came-append c [] fs = refl
  came-append c (took x ∷ es) fs = came-append c es fs
  came-append c (came b s ∷ es) fs = if-cons (b == c) s (came_from c (es ++ fs)) (came_from c es) (came_from c fs) (came-append c es fs)
  came-append c (worked max ∷ es) fs = came-append c es fs
  came-append c (gone s ∷ es) fs = came-append c es fs
  came-append c (lent h u out v ∷ es) fs = came-append c es fs

pub runs-append : {S E : Type 0} (Step : S → E → S → Type 0) (es fs : List E) (x y z : S) → Runs Step x es y → Runs Step y fs z → Runs Step x (es ++ fs) z
runs-append Step [] fs x y z p q = subst (λ w. Runs Step w fs z) p q
runs-append Step (e ∷ es) fs x y z p q = (p.0, p.1, runs-append Step es fs p.0 y z p.2 q)
