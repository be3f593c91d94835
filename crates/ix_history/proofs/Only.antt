-- What each call makes of the pieces of one tenure.
use Rattle.std.proofs.Common.{◌≡◌, ℕ, Bool, true, false, ◌||◌, List, [], ◌∷◌, ◌++◌, refl, ap, ◌∙◌, subst, arith}
use Rattle.std.specs.Prelude.{◌==◌, if◌then◌else◌, Option, Some, None}
use Rattle.std.proofs.lemmas.Bool.Decides.{nat_tests}
use Rattle.ix_base.specs.declared.id.CoreId.{CoreId}
use Rattle.ix_desk.specs.Views.{Piece, CutPiece, Arrival}
use Rattle.ix_desk.specs.Tenures.{has_arrived}
use Rattle.ix_desk.specs.Pieces.{awaits, is_done}
use Rattle.ix_desk.specs.Steps.{EachWorked, cut_leaves, CutWorked, CurrentWorked, PieceWorked}
use Rattle.ix_desk.specs.Groups.{item_put, tag_put, cut_of, arrival_of, arrivals_but, cut_awaits, cut_seated, current_awaits, current_seated, done_of, cut_but_done}
use Rattle.ix_history.specs.Pieces.{cut_at, current_at, early_at}

-- what arrived early for a tenure
abbrev pub first_of : {X : Type 0} → List X → Option X
first_of [] = None
first_of (x ∷ xs) = Some x

abbrev pub rest_of : {X : Type 0} → List X → List X
rest_of [] = []
rest_of (x ∷ xs) = xs

module _ {U I : Type 0} where
  pub cut_at-append : (k : ℕ) (xs ys : List (CutPiece U I)) → cut_at k (xs ++ ys) ≡ cut_at k xs ++ cut_at k ys
  cut_at-append k [] ys = refl
  cut_at-append k (x ∷ xs) ys = let rest = cut_at-append k xs ys in grind arith

  pub early_at-append : (k : ℕ) (xs ys : List (Arrival U I)) → early_at k (xs ++ ys) ≡ early_at k xs ++ early_at k ys
  early_at-append k [] ys = refl
  early_at-append k (x ∷ xs) ys = let rest = early_at-append k xs ys in grind arith

  pub put-at : (k : ℕ) (x : I) (p : Option (Piece U I)) → current_at k (item_put x p) ≡ item_put x (current_at k p)
  put-at k x None = refl
  put-at k x (Some p) = grind arith

  pub tag-at : (k : ℕ) (p : Option (Piece U I)) → current_at k (tag_put p) ≡ tag_put (current_at k p)
  tag-at k None = refl
  tag-at k (Some p) = grind arith

  pub cut-of-at : (k : ℕ) (to : CoreId) (p : Option (Piece U I)) → cut_at k (cut_of to p) ≡ cut_of to (current_at k p)
  cut-of-at k to None = refl
  cut-of-at k to (Some p) = grind arith

  pub awaits-tenure : (k : ℕ) (p : Piece U I) → awaits k p ≡ true → p.tenure ≡ k
  awaits-tenure k p e = grind (arith, nat_tests)

  pub awaits-at : (k : ℕ) (cs : List (CutPiece U I)) → cut_awaits k cs ≡ cut_awaits k (cut_at k cs)
  awaits-at k [] = refl
  awaits-at k (c ∷ cs) = let rest = awaits-at k cs in let t = awaits-tenure k c.piece in grind (arith, nat_tests)

  pub current-awaits-at : (k : ℕ) (p : Option (Piece U I)) → current_awaits k p ≡ current_awaits k (current_at k p)
  current-awaits-at k None = refl
  current-awaits-at k (Some p) = let t = awaits-tenure k p in grind (arith, nat_tests)

  pub seated-at : (k : ℕ) (a : Arrival U I) (cs : List (CutPiece U I)) → a.tenure ≡ k → cut_at k (cut_seated a cs) ≡ cut_seated a (cut_at k cs)
  seated-at k a [] e = refl
  seated-at k a (c ∷ cs) e = let rest = seated-at k a cs e in let t = awaits-tenure a.tenure c.piece in grind (arith, nat_tests)

  pub seated-other : (k : ℕ) (a : Arrival U I) (cs : List (CutPiece U I)) → (a.tenure == k) ≡ false → cut_at k (cut_seated a cs) ≡ cut_at k cs
  seated-other k a [] e = refl
  seated-other k a (c ∷ cs) e = let rest = seated-other k a cs e in let t = awaits-tenure a.tenure c.piece in grind (arith, nat_tests)

  pub current-seated-at : (k : ℕ) (a : Arrival U I) (p : Option (Piece U I)) → a.tenure ≡ k → current_at k (current_seated a p) ≡ current_seated a (current_at k p)
  current-seated-at k a None e = refl
  current-seated-at k a (Some p) e = let t = awaits-tenure a.tenure p in grind (arith, nat_tests)

  pub current-seated-other : (k : ℕ) (a : Arrival U I) (p : Option (Piece U I)) → (a.tenure == k) ≡ false → current_at k (current_seated a p) ≡ current_at k p
  current-seated-other k a None e = refl
  current-seated-other k a (Some p) e = let t = awaits-tenure a.tenure p in grind (arith, nat_tests)

  pub arrival-at : (k : ℕ) (bs : List (Arrival U I)) → arrival_of k bs ≡ first_of (early_at k bs)
  arrival-at k [] = refl
  arrival-at k (a ∷ bs) = let rest = arrival-at k bs in grind arith

  pub but-at : (k : ℕ) (bs : List (Arrival U I)) → early_at k (arrivals_but k bs) ≡ rest_of (early_at k bs)
  but-at k [] = refl
  but-at k (a ∷ bs) = let rest = but-at k bs in grind arith

  pub but-other : (k j : ℕ) (bs : List (Arrival U I)) → (j == k) ≡ false → early_at k (arrivals_but j bs) ≡ early_at k bs
  but-other k j [] e = refl
  but-other k j (a ∷ bs) e = let rest = but-other k j bs e in grind (arith, nat_tests)

  pub done-here : (k : ℕ) (cs : List (CutPiece U I)) (c : CutPiece U I) → done_of cs ≡ Some c → c.piece.tenure ≡ k
      → (done_of (cut_at k cs) ≡ Some c) × (cut_at k (cut_but_done cs) ≡ cut_but_done (cut_at k cs))
  done-here k [] c e t = absurd (cc)
  done-here k (x ∷ cs) c e t = let rest = λ (q : done_of cs ≡ Some c). done-here k cs c q t in grind (arith, nat_tests)

  pub done-other : (k : ℕ) (cs : List (CutPiece U I)) (c : CutPiece U I) → done_of cs ≡ Some c → (c.piece.tenure == k) ≡ false
      → cut_at k (cut_but_done cs) ≡ cut_at k cs
  done-other k [] c e t = absurd (cc)
  done-other k (x ∷ cs) c e t = let rest = λ (q : done_of cs ≡ Some c). done-other k cs c q t in grind (arith, nat_tests)

  pub done-is : (cs : List (CutPiece U I)) (c : CutPiece U I) → done_of cs ≡ Some c → is_done c.piece ≡ true
  done-is [] c e = absurd (cc)
  done-is (x ∷ cs) c e = let rest = λ (q : done_of cs ≡ Some c). done-is cs c q in grind arith

pub arrived-append : (k j : ℕ) (ks : List ℕ) → has_arrived k (ks ++ j ∷ []) ≡ (has_arrived k ks || (j == k))
arrived-append k j [] = grind arith
arrived-append k j (i ∷ ks) = let rest = arrived-append k j ks in grind arith

module _ {U I E : Type 0} (counted : I → Bool) (name : I → ℕ) (stepped : U → List (ℕ × ℕ)) (advanced : U → E → ℕ → List I → U → Type 0) (env : E) (here k : ℕ) where
  abbrev Each : ℕ → List (CutPiece U I) → List (CutPiece U I) → Type 0
  Each b cs ds = EachWorked (cut_leaves counted) (CutWorked counted name stepped advanced env here) b cs ds

  pick : (q : Bool) (x : CutPiece U I) (xs : List (CutPiece U I)) → (if q then x ∷ xs else xs) ≡ [] → (q ≡ false) × (xs ≡ [])
  pick true x xs e = absurd (cc)
  pick false x xs e = (refl, e)

  same-test : (x y : CutPiece U I) → y.piece.tenure ≡ x.piece.tenure → (y.piece.tenure == k) ≡ (x.piece.tenure == k)
  same-test x y e = ap (λ n. n == k) e

  pub worked-none : (b : ℕ) (cs ds : List (CutPiece U I)) → Each b cs ds → cut_at k cs ≡ [] → cut_at k ds ≡ []
  worked-none b [] [] w e = refl
  worked-none b (x ∷ cs) (y ∷ ds) w e =
      let p = pick (x.piece.tenure == k) x (cut_at k cs) e in
      let rest = worked-none (cut_leaves counted b x) cs ds w.1 p.1 in
      rw (same-test x y w.0.piece.tenure, p.0) rest
  worked-none b [] (y ∷ ds) w e = absurd w
  worked-none b (x ∷ cs) [] w e = absurd w

  pub worked-one : (b : ℕ) (cs ds : List (CutPiece U I)) (c : CutPiece U I) → Each b cs ds → cut_at k cs ≡ c ∷ []
      → (n : ℕ) × (d : CutPiece U I) × (cut_at k ds ≡ d ∷ []) × CutWorked counted name stepped advanced env here n c d
  worked-one b [] [] c w e = absurd (cc)
  worked-one b (x ∷ cs) (y ∷ ds) c w e =
      elim (x.piece.tenure == k) as (λ q. (x.piece.tenure == k) ≡ q → (if q then x ∷ cut_at k cs else cut_at k cs) ≡ c ∷ []
      → (n : ℕ) × (d : CutPiece U I) × (cut_at k (y ∷ ds) ≡ d ∷ []) × CutWorked counted name stepped advanced env here n c d) [
        | true ↦ λ q p.
            let first : x ≡ c = cc in
            let none : cut_at k cs ≡ [] = cc in
            let rest = worked-none (cut_leaves counted b x) cs ds w.1 none in
            let test = same-test x y w.0.piece.tenure ∙ q in
            (b, y, rw (test, rest) refl, subst (λ z. CutWorked counted name stepped advanced env here b z y) first w.0)
        | false ↦ λ q p.
            let rest = worked-one (cut_leaves counted b x) cs ds c w.1 p in
            let test = same-test x y w.0.piece.tenure ∙ q in
            (rest.0, rest.1, rw test rest.2, rest.3)
      ] refl e
  worked-one b [] (y ∷ ds) c w e = absurd w
  worked-one b (x ∷ cs) [] c w e = absurd w

  pub current-none : (b : ℕ) (p q : Option (Piece U I)) → CurrentWorked counted name stepped advanced env here b p q → current_at k p ≡ None → current_at k q ≡ None
  current-none b None None w e = refl
  current-none b (Some p) (Some q) w e =
      elim (p.tenure == k) as (λ t. (p.tenure == k) ≡ t → (if t then Some p else None) ≡ None → current_at k (Some q) ≡ None) [
        | true ↦ λ t r. absurd (cc)
        | false ↦ λ t r. rw (ap (λ n. n == k) w.tenure ∙ t) refl
      ] refl e
  current-none b None (Some q) w e = absurd w
  current-none b (Some p) None w e = absurd w

  pub current-one : (b : ℕ) (p q : Option (Piece U I)) (c : Piece U I) → CurrentWorked counted name stepped advanced env here b p q → current_at k p ≡ Some c
      → (d : Piece U I) × (current_at k q ≡ Some d) × PieceWorked counted name stepped advanced env here b c d
  current-one b None None c w e = absurd (cc)
  current-one b (Some p) (Some q) c w e =
      elim (p.tenure == k) as (λ t. (p.tenure == k) ≡ t → (if t then Some p else None) ≡ Some c
      → (d : Piece U I) × (current_at k (Some q) ≡ Some d) × PieceWorked counted name stepped advanced env here b c d) [
        | true ↦ λ t r. (q, rw (ap (λ n. n == k) w.tenure ∙ t) refl, subst (λ z. PieceWorked counted name stepped advanced env here b z q) (let s : p ≡ c = cc in s) w)
        | false ↦ λ t r. absurd (cc)
      ] refl e
  current-one b None (Some q) c w e = absurd w
  current-one b (Some p) None c w e = absurd w
