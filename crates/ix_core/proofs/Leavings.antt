-- A unit that leaves.
use Rattle.std.proofs.Common.{◌≡◌, ◌≤◌, ℕ, zero, suc, Bool, true, false, List, [], ◌∷◌, Some, length, get_or, set, sum_by, refl, ap, arith}
use Rattle.std.specs.Prelude.{if◌then◌else◌}
use Rattle.std.proofs.lemmas.List.Sums.{sum_by-cons}
use Rattle.ix_desk.specs.Pieces.{is_done}
use Rattle.ix_desk.specs.Views.{CutPiece, Group, View}
use Rattle.ix_desk.specs.Groups.{empty, done_of, cut_but_done, shipped}
use Rattle.ix_desk.specs.Desks.{Ships}

module _ {U I : Type 0} where
  done-cases : (b : Bool) (c : CutPiece U I) (cs : List (CutPiece U I)) (p : CutPiece U I) → (done_of cs ≡ Some p → suc (length (cut_but_done cs)) ≡ length cs)
      → (if b then Some c else done_of cs) ≡ Some p → suc (length (if b then cs else c ∷ cut_but_done cs)) ≡ suc (length cs)
  done-cases true c cs p rest e = refl
  done-cases false c cs p rest e = ap suc (rest e)

  cut-shrinks : (cs : List (CutPiece U I)) (p : CutPiece U I) → done_of cs ≡ Some p → suc (length (cut_but_done cs)) ≡ length cs
  cut-shrinks [] p e = absurd (cc)
  cut-shrinks (c ∷ cs) p e = done-cases (is_done c.piece) c cs p (cut-shrinks cs p) e

  abbrev pub cuts : Group U I → ℕ
  cuts g = length g.cut

  pub groups-shrink : (gs : List (Group U I)) (g : ℕ) (p : CutPiece U I) → done_of (get_or gs g empty).cut ≡ Some p
      → suc (sum_by cuts (set gs g (shipped (get_or gs g empty)))) ≤ sum_by cuts gs
  groups-shrink [] g p e = absurd (cc)
  groups-shrink (x ∷ xs) zero p e = omega (arith, cut-shrinks x.cut p e, sum_by-cons cuts (shipped x) xs, sum_by-cons cuts x xs)
  groups-shrink (x ∷ xs) (suc g) p e = omega (arith, groups-shrink xs g p e, sum_by-cons cuts x (set xs g (shipped (get_or xs g empty))), sum_by-cons cuts x xs)

  pub ships-shrink : (x y : View U I) (g k to : ℕ) (u : U) (q : List I) → Ships x y g k to u q → suc (sum_by cuts y.groups) ≤ sum_by cuts x.groups
  ships-shrink x y g k to u q s = rw s.over (groups-shrink x.groups g s.piece s.done)
