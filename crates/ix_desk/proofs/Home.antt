-- The units that are at home.
use Rattle.std.proofs.Common.{◌≡◌, ℕ, zero, suc, ◌<◌, List, [], ◌∷◌, ◌++◌, length, get_or, set, refl, subst, arith, length-append}
use Rattle.std.specs.Prelude.{All, replicate}
use Rattle.std.proofs.Math.ListN.{get_or-append}
use Rattle.std.proofs.Math.Seq.{get_or-append_seam}
use Rattle.std.proofs.lemmas.Bool.Decides.{nat_tests}
use Rattle.std.proofs.lemmas.Grind.{elements}
use Rattle.ix_base.specs.declared.id.GroupId.{GroupId}
use Rattle.ix_desk.specs.Views.{Group}
use Rattle.ix_desk.specs.Groups.{empty, at_home}
use Rattle.ix_desk.specs.Desks.{opened}

-- what holds of all elements holds of those before the last, and of the last
pub front : {X : Type 0} (P : X → Type 0) (xs : List X) (y : X) → All P (xs ++ y ∷ []) → All P xs
front P xs y all = λ k d lt. subst P (get_or-append xs (y ∷ []) d k lt) (all k d (omega (arith, length-append xs (y ∷ []))))

pub last : {X : Type 0} (P : X → Type 0) (xs : List X) (y : X) → All P (xs ++ y ∷ []) → P y
last P xs y all = subst P (get_or-append_seam xs y [] y) (all (length xs) y (omega (arith, length-append xs (y ∷ []))))

module _ {U I : Type 0} where
  pub opened-step : (gs : List (Group U I)) (rest : List (GroupId × U)) (h : GroupId × U) (i : ℕ) → i ≡ h.0.0 → i < length gs
      → ((j : ℕ) → get_or gs j empty ≡ opened rest j) → (j : ℕ) → get_or (set gs i (at_home h.1)) j empty ≡ opened (h ∷ rest) j
  opened-step gs rest h i at lt known j = let before = known j in grind (arith, elements, nat_tests)

  pub none-begun : (n j : ℕ) → get_or (replicate n (empty {U = U} {I = I})) j empty ≡ empty
  none-begun zero j = refl
  none-begun (suc n) zero = refl
  none-begun (suc n) (suc j) = none-begun n j
