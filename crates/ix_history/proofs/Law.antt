-- The piece law, by induction on the history.
use Rattle.std.proofs.Common.{◌≡◌, ℕ, ◌<◌, Bool, List, [], ◌∷◌, length, map, sym, ◌∙◌, subst}
use Rattle.ix_desk.specs.Views.{View}
use Rattle.ix_desk.specs.Desks.{group_at}
use Rattle.ix_history.specs.Runs.{Runs}
use Rattle.ix_history.specs.Events.{Event, part_of, Happened, GroupStep}
use Rattle.ix_history.specs.Pieces.{Account, noted, account, Stands}
use Rattle.ix_history.proofs.Keeps.{keeps}
use Rattle.ix_history.proofs.Places.{part-step, core-stays, size-stays}

module _ {U I O E : Type 0} (counted : I → Bool) (name : I → ℕ) (stepped : U → List (ℕ × ℕ)) (advanced : U → E → ℕ → List I → U → Type 0) (lends : U → O → U → Type 0) (env : E) where
  pub piece-law : (here g k : ℕ) (x y : View U I) (history : List (Event U I O)) (a : Account U I)
      → x.core ≡ here → length x.groups ≡ 512 → g < 512 → Runs (Happened counted name stepped advanced lends env) x history y
      → Stands counted name stepped advanced lends env here k a (group_at x g)
      → Stands counted name stepped advanced lends env here k (account k a (map (part_of g) history)) (group_at y g)
  piece-law here g k x y [] a core len lt runs s = subst (λ (v : View U I). Stands counted name stepped advanced lends env here k a (group_at v g)) (sym runs) s
  piece-law here g k x y (e ∷ es) a core len lt runs s =
      let z = runs.0 in
      let step = subst (λ c. GroupStep counted name stepped advanced lends env c (group_at x g) (part_of g e) (group_at z g)) core (part-step counted name stepped advanced lends env g x z e len lt runs.1) in
      let next = keeps counted name stepped advanced lends env here k a (group_at x g) (group_at z g) (part_of g e) step s in
      piece-law here g k z y es (noted k a (part_of g e)) (core-stays counted name stepped advanced lends env x z e runs.1 ∙ core) (size-stays counted name stepped advanced lends env x z e runs.1 ∙ len) lt runs.2 next
