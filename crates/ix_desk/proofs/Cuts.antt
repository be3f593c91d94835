-- The first piece that was cut and passes a test, and the first arrival of a tenure.
use Rattle.std.proofs.Common.{◌≡◌, ℕ, Bool, true, false, List, [], ◌∷◌, get_or, set, refl, sym, ap, ◌∙◌, Some, None}
use Rattle.std.specs.Prelude.{is_some, if◌then◌else◌, position, remove, ◌==◌, ◌&&◌, ◌||◌}
use Rattle.std.proofs.lemmas.List.{set_split}
use Rattle.ix_desk.specs.Views.{CutPiece, Arrival}
use Rattle.ix_desk.specs.Pieces.{awaits, with_arrival, is_done, is_nil}
use Rattle.ix_desk.specs.Groups.{arrival_of, arrivals_but, is_awaiting, is_seated, is_finished, cut_awaits, cut_seated, cut_unit, cut_piece_untaken, cut_untaken, no_piece, cut_piece_with, cut_with, done_of, cut_but_done, HasNoUnit, HasUnitAt}
use Rattle.ix_desk.proofs.First.{changed-at, changed-none, found-at, found-none, passes, within}

or_else : (a b : Bool) → (a || b) ≡ (if a then true else b)
or_else true b = refl
or_else false b = refl

module _ {U I : Type 0} (cs : List (CutPiece U I)) where
  pub unit-at : (i : ℕ) → position is_seated cs ≡ Some i → HasUnitAt cs i
  unit-at i e =
      let lt = within is_seated cs i no_piece e in
      record {
        within = lt;
        here = passes is_seated cs i no_piece e;
        unit = found-at is_seated cut_unit (λ c. c.piece.unit) (λ c rest. refl) cs i no_piece e;
        with = λ u.
            changed-at is_seated (λ xs. cut_with xs u) (λ c rest. cut_piece_with c u ∷ rest) (λ c rest. refl) cs i no_piece e
            ∙ sym (set_split cs i (cut_piece_with (get_or cs i no_piece) u) lt);
        untaken =
            changed-at is_seated cut_untaken (λ c rest. cut_piece_untaken c ∷ rest) (λ c rest. refl) cs i no_piece e
            ∙ sym (set_split cs i (cut_piece_untaken (get_or cs i no_piece)) lt);
      }

  pub no-unit : position is_seated cs ≡ None → HasNoUnit cs
  no-unit e = record {
    unit = found-none is_seated cut_unit (λ c. c.piece.unit) (λ c rest. refl) cs None refl e;
    with = λ u. changed-none is_seated (λ xs. cut_with xs u) (λ c rest. cut_piece_with c u ∷ rest) (λ c rest. refl) cs refl e;
    untaken = changed-none is_seated cut_untaken (λ c rest. cut_piece_untaken c ∷ rest) (λ c rest. refl) cs refl e;
  }

  abbrev with_unit_of : Arrival U I → CutPiece U I → CutPiece U I
  with_unit_of a c = record { to = c.to; piece = with_arrival a c.piece }

  pub seated-at : (a : Arrival U I) (i : ℕ) (x y : CutPiece U I) → position (is_awaiting a.tenure) cs ≡ Some i → x ≡ get_or cs i x
      → y ≡ record { to = x.to; piece = with_arrival a x.piece } → set cs i y ≡ cut_seated a cs
  seated-at a i x y e read made =
      ap (set cs i) (made ∙ ap (with_unit_of a) read)
      ∙ set_split cs i (with_unit_of a (get_or cs i x)) (within (is_awaiting a.tenure) cs i x e)
      ∙ sym (changed-at (is_awaiting a.tenure) (cut_seated a) (λ c rest. with_unit_of a c ∷ rest) (λ c rest. refl) cs i x e)

  pub none-seated : (a : Arrival U I) → position (is_awaiting a.tenure) cs ≡ None → cut_seated a cs ≡ cs
  none-seated a e = changed-none (is_awaiting a.tenure) (cut_seated a) (λ c rest. record { to = c.to; piece = with_arrival a c.piece } ∷ rest) (λ c rest. refl) cs refl e

  pub awaited : (k i : ℕ) (d : CutPiece U I) → position (is_awaiting k) cs ≡ Some i → cut_awaits k cs ≡ true
  awaited k i d e = found-at (is_awaiting k) (cut_awaits k) (λ c. true) (λ c rest. or_else (awaits k c.piece) (cut_awaits k rest)) cs i d e

  pub none-awaits : (k : ℕ) → position (is_awaiting k) cs ≡ None → cut_awaits k cs ≡ false
  none-awaits k e = found-none (is_awaiting k) (cut_awaits k) (λ c. true) (λ c rest. or_else (awaits k c.piece) (cut_awaits k rest)) cs false refl e

  pub done-at : (i : ℕ) (d : CutPiece U I) → position is_finished cs ≡ Some i → done_of cs ≡ Some (get_or cs i d)
  done-at i d e = found-at is_finished done_of (λ c. Some c) (λ c rest. refl) cs i d e

  pub none-done : position is_finished cs ≡ None → done_of cs ≡ None
  none-done e = found-none is_finished done_of (λ c. Some c) (λ c rest. refl) cs None refl e

  pub but-done-at : (i : ℕ) (d : CutPiece U I) → position is_finished cs ≡ Some i → cut_but_done cs ≡ remove cs i
  but-done-at i d e = changed-at is_finished cut_but_done (λ c rest. rest) (λ c rest. refl) cs i d e

  pub none-but-done : position is_finished cs ≡ None → cut_but_done cs ≡ cs
  none-but-done e = changed-none is_finished cut_but_done (λ c rest. rest) (λ c rest. refl) cs refl e

module _ {U I : Type 0} (arrivals : List (Arrival U I)) (k : ℕ) where
  pub arrival-at : (i : ℕ) (d : Arrival U I) → position (λ a. a.tenure == k) arrivals ≡ Some i → arrival_of k arrivals ≡ Some (get_or arrivals i d)
  arrival-at i d e = found-at (λ (a : Arrival U I). a.tenure == k) (arrival_of k) (λ a. Some a) (λ a rest. refl) arrivals i d e

  pub none-arrived : position (λ a. a.tenure == k) arrivals ≡ None → arrival_of k arrivals ≡ None
  none-arrived e = found-none (λ (a : Arrival U I). a.tenure == k) (arrival_of k) (λ a. Some a) (λ a rest. refl) arrivals None refl e

  pub but-arrival-at : (i : ℕ) (d : Arrival U I) → position (λ a. a.tenure == k) arrivals ≡ Some i → arrivals_but k arrivals ≡ remove arrivals i
  but-arrival-at i d e = changed-at (λ (a : Arrival U I). a.tenure == k) (arrivals_but k) (λ a rest. rest) (λ a rest. refl) arrivals i d e

  pub none-but-arrived : position (λ a. a.tenure == k) arrivals ≡ None → arrivals_but k arrivals ≡ arrivals
  none-but-arrived e = changed-none (λ (a : Arrival U I). a.tenure == k) (arrivals_but k) (λ a rest. rest) (λ a rest. refl) arrivals refl e

both : (a b : Bool) → (a && b) ≡ true → a ≡ true
both true b e = refl
both false b e = e

-- a piece that is done has its unit
pub done-unit : {U I : Type 0} (xs : List (CutPiece U I)) (c : CutPiece U I) → done_of xs ≡ Some c → is_some c.piece.unit ≡ true
done-unit [] c e = absurd (cc)
done-unit (x ∷ xs) c e =
    elim (is_done x.piece) as (λ b. is_done x.piece ≡ b → (if b then Some x else done_of xs) ≡ Some c → is_some c.piece.unit ≡ true) [
      | true ↦ λ q r. let u = both (is_some x.piece.unit) (is_nil x.piece.remote && is_nil x.piece.local) q in let same : x ≡ c = cc in cc
      | false ↦ λ q r. done-unit xs c r
    ] refl e
