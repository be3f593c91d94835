-- Units in their places: which unit is there after a loan, and whether something is to be stepped.
use Rattle.std.proofs.Common.{◌≡◌, ◌<◌, ℕ, zero, suc, Bool, true, false, List, [], ◌∷◌, Option, Some, None, length, get_or, set, refl, sym, ap, ◌∙◌, arith}
use Rattle.std.specs.Prelude.{◌||◌, ◌&&◌, if◌then◌else◌, is_some, not}
use Rattle.std.specs.List.{list_any}
use Rattle.ix_mbuf.specs.Buffers.{Buffer}
use Rattle.ix_desk.specs.Pieces.{is_done, is_nil, ready}
use Rattle.ix_desk.specs.Views.{CutPiece, Group, Piece, View}
use Rattle.ix_desk.specs.Groups.{changed, current_has_work, current_unit, current_with, cut_but_done, cut_has_work, cut_piece_with, cut_unit, cut_with, empty, group_has_work, shipped, unit_of}
use Rattle.ix_desk.specs.Desks.{Ships, group_at, has_work, with_group}
use Rattle.ix_history.specs.Events.{Event, Happened, Parcel, came, gone, lent, took, worked}
use Rattle.ix_history.specs.Items.{taken_in}
use Rattle.ix_history.specs.Run.{landed_in}
use Rattle.ix_history.specs.Runs.{Runs}
use Rattle.ix_stack.specs.declared.work.Work.{Work}
use Rattle.ix_core.specs.Runs.{Calm, works_in}

pub no_items : {X : Type 0} (xs : List X) → length xs ≡ 0 → xs ≡ []
no_items [] e = refl
no_items (x ∷ xs) e = absurd (omega (arith, e))

-- an element of a list that has one at this place
pub one_of : {X : Type 0} (xs : List X) (i : ℕ) → i < length xs → X
one_of [] i lt = absurd (omega arith)
one_of (x ∷ xs) i lt = x

pub either_left : (a b : Bool) → (a || b) ≡ false → a ≡ false
either_left true b e = e
either_left false b e = refl

pub either_right : (a b : Bool) → (a || b) ≡ false → b ≡ false
either_right true b e = absurd (cc)
either_right false b e = e

neither : (a b : Bool) → a ≡ false → b ≡ false → (a || b) ≡ false
neither true b p q = p
neither false b p q = q

any_at : {X : Type 0} (p : X → Bool) (xs : List X) (i : ℕ) (d : X) → list_any p xs ≡ false → p d ≡ false → p (get_or xs i d) ≡ false
any_at p [] i d e out = out
any_at p (x ∷ xs) zero d e out = either_left (p x) _ e
any_at p (x ∷ xs) (suc i) d e out = any_at p xs i d (either_right (p x) _ e) out

any_set : {X : Type 0} (p : X → Bool) (xs : List X) (i : ℕ) (y : X) → list_any p xs ≡ false → p y ≡ false → list_any p (set xs i y) ≡ false
any_set p [] i y e out = refl
any_set p (x ∷ xs) zero y e out = neither (p y) _ out (either_right (p x) _ e)
any_set p (x ∷ xs) (suc i) y e out = neither (p x) _ (either_left (p x) _ e) (any_set p xs i y (either_right (p x) _ e) out)

module _ {U : Type 0} where
  -- ## Which unit is there
  pub unit_within : (gs : List (Group U Work)) (g : ℕ) (u : U) → unit_of (get_or gs g empty) ≡ Some u → g < length gs
  unit_within [] g u e = absurd (cc)
  unit_within (x ∷ xs) zero u e = omega arith
  unit_within (x ∷ xs) (suc g) u e = let rest = unit_within xs g u e in omega arith

  cut_case : (b : Bool) (c : CutPiece U Work) (cs : List (CutPiece U Work)) (v : U) → is_some c.piece.unit ≡ b → is_some (if b then c.piece.unit else cut_unit cs) ≡ true
      → (is_some (cut_unit cs) ≡ true → cut_unit (cut_with cs v) ≡ Some v) → cut_unit (if b then cut_piece_with c v ∷ cs else c ∷ cut_with cs v) ≡ Some v
  cut_case true c cs v is e rest = refl
  cut_case false c cs v is e rest = rw is (rest e)

  cut_changed : (cs : List (CutPiece U Work)) (v : U) → is_some (cut_unit cs) ≡ true → cut_unit (cut_with cs v) ≡ Some v
  cut_changed [] v e = absurd (cc)
  cut_changed (c ∷ cs) v e = cut_case (is_some c.piece.unit) c cs v refl e (cut_changed cs v)

  some_case : (b : Bool) (c : CutPiece U Work) (cs : List (CutPiece U Work)) (v : U) → is_some c.piece.unit ≡ b → is_some (if b then c.piece.unit else cut_unit cs) ≡ false
      → (is_some (cut_unit cs) ≡ false → cut_with cs v ≡ cs) → (if b then cut_piece_with c v ∷ cs else c ∷ cut_with cs v) ≡ c ∷ cs
  some_case true c cs v is e rest = absurd (let clash : true ≡ false = sym is ∙ e in cc)
  some_case false c cs v is e rest = ap (λ l. c ∷ l) (rest e)

  cut_stays : (cs : List (CutPiece U Work)) (v : U) → is_some (cut_unit cs) ≡ false → cut_with cs v ≡ cs
  cut_stays [] v e = refl
  cut_stays (c ∷ cs) v e = some_case (is_some c.piece.unit) c cs v refl e (cut_stays cs v)

  current_changed : (o : Option (Piece U Work)) (u v : U) → current_unit o ≡ Some u → current_unit (current_with o v) ≡ Some v
  current_changed None u v e = absurd (cc)
  current_changed (Some p) u v e = refl

  changed_case : (b : Bool) (g : Group U Work) (u v : U) → is_some (cut_unit g.cut) ≡ b → (if b then cut_unit g.cut else current_unit g.current) ≡ Some u
      → (if is_some (cut_unit (cut_with g.cut v)) then cut_unit (cut_with g.cut v) else current_unit (if b then g.current else current_with g.current v)) ≡ Some v
  changed_case true g u v is e = rw (cut_changed g.cut v is) refl
  changed_case false g u v is e = rw (cut_stays g.cut v is, is) (current_changed g.current u v e)

  pub unit_changed : (g : Group U Work) (u v : U) → unit_of g ≡ Some u → unit_of (changed g v) ≡ Some v
  unfolding changed
  unit_changed g u v e = changed_case (is_some (cut_unit g.cut)) g u v refl e

  -- ## Whether something is to be stepped
  cut_with_case : (b : Bool) (c : CutPiece U Work) (cs : List (CutPiece U Work)) (v : U) → is_some c.piece.unit ≡ b → (b && not (is_nil (ready c.piece))) ≡ false → list_any cut_has_work cs ≡ false
      → list_any cut_has_work (cut_with cs v) ≡ false → list_any cut_has_work (if b then cut_piece_with c v ∷ cs else c ∷ cut_with cs v) ≡ false
  cut_with_case true c cs v is e rest more = neither _ _ e rest
  cut_with_case false c cs v is e rest more = neither _ _ (rw is refl) more

  cut_with_rests : (cs : List (CutPiece U Work)) (v : U) → list_any cut_has_work cs ≡ false → list_any cut_has_work (cut_with cs v) ≡ false
  cut_with_rests [] v e = refl
  cut_with_rests (c ∷ cs) v e =
      cut_with_case (is_some c.piece.unit) c cs v refl (either_left _ _ e) (either_right (cut_has_work c) _ e) (cut_with_rests cs v (either_right (cut_has_work c) _ e))

  current_with_rests : (o : Option (Piece U Work)) (u v : U) → current_unit o ≡ Some u → current_has_work o ≡ false → current_has_work (current_with o v) ≡ false
  current_with_rests None u v here e = refl
  current_with_rests (Some p) u v here e = rw here at e

  changed_rests_case : (b : Bool) (g : Group U Work) (u v : U) → (if b then cut_unit g.cut else current_unit g.current) ≡ Some u
      → list_any cut_has_work g.cut ≡ false → current_has_work g.current ≡ false
      → (list_any cut_has_work (cut_with g.cut v) || current_has_work (if b then g.current else current_with g.current v)) ≡ false
  changed_rests_case true g u v here cut current = neither _ _ (cut_with_rests g.cut v cut) current
  changed_rests_case false g u v here cut current = neither _ _ (cut_with_rests g.cut v cut) (current_with_rests g.current u v here current)

  changed_rests : (g : Group U Work) (u v : U) → unit_of g ≡ Some u → group_has_work g ≡ false → group_has_work (changed g v) ≡ false
  unfolding changed
  changed_rests g u v here e = changed_rests_case (is_some (cut_unit g.cut)) g u v here (either_left _ _ e) (either_right (list_any cut_has_work g.cut) _ e)

  shipped_case : (b : Bool) (c : CutPiece U Work) (cs : List (CutPiece U Work)) → cut_has_work c ≡ false → list_any cut_has_work cs ≡ false → list_any cut_has_work (cut_but_done cs) ≡ false
      → list_any cut_has_work (if b then cs else c ∷ cut_but_done cs) ≡ false
  shipped_case true c cs one rest more = rest
  shipped_case false c cs one rest more = neither _ _ one more

  shipped_rests : (cs : List (CutPiece U Work)) → list_any cut_has_work cs ≡ false → list_any cut_has_work (cut_but_done cs) ≡ false
  shipped_rests [] e = refl
  shipped_rests (c ∷ cs) e =
      shipped_case (is_done c.piece) c cs (either_left _ _ e) (either_right (cut_has_work c) _ e) (shipped_rests cs (either_right (cut_has_work c) _ e))

module _ {U E : Type 0} (counted : Work → Bool) (name : Work → ℕ) (stepped : U → List (ℕ × ℕ)) (advanced : U → E → ℕ → List Work → U → Type 0) (drained : U → List Buffer → U → Type 0) (env : E) where
  lent_rests : (x y : View U Work) (g : ℕ) (u v : U) → unit_of (group_at x g) ≡ Some u → y ≡ with_group x g (changed (group_at x g) v) → has_work x ≡ false → has_work y ≡ false
  lent_rests x y g u v here e rest =
      ap has_work e ∙ any_set group_has_work x.groups g (changed (group_at x g) v) rest (changed_rests (group_at x g) u v here (any_at group_has_work x.groups g empty rest refl))

  gone_rests : (x y : View U Work) (g k to : ℕ) (u : U) (q : List Work) → Ships x y g k to u q → has_work x ≡ false → has_work y ≡ false
  gone_rests x y g k to u q s rest =
      let here = any_at group_has_work x.groups g empty rest refl in
      ap has_work s.over ∙ any_set group_has_work x.groups g (shipped (group_at x g)) rest
      (neither _ _ (shipped_rests (group_at x g).cut (either_left _ _ here)) (either_right (list_any cut_has_work (group_at x g).cut) _ here))

  runs_rest : (es : List (Event U Work (List Buffer))) (x y : View U Work) → Runs (Happened counted name stepped advanced drained env) x es y
      → taken_in es ≡ [] → landed_in es ≡ [] → works_in es ≡ [] → has_work x ≡ false → has_work y ≡ false
  runs_rest [] x y p a b c rest = ap has_work p ∙ rest
  runs_rest (took i ∷ es) x y p a b c rest = absurd (cc)
  runs_rest (came n s ∷ es) x y p a b c rest = absurd (cc)
  runs_rest (worked most ∷ es) x y p a b c rest = absurd (cc)
  runs_rest (gone s ∷ es) x y p a b c rest = runs_rest es p.0 y p.2 a b c (gone_rests x p.0 s.group s.tenure s.to s.unit s.queue p.1 rest)
  runs_rest (lent g u out v ∷ es) x y p a b c rest = runs_rest es p.0 y p.2 a b c (lent_rests x p.0 g u v p.1.0 p.1.2 rest)

  -- where nothing was to be stepped and nothing came, nothing is to be stepped
  pub calm_rests : (x y : View U Work) (frees : List (List Buffer)) (outs : List (Parcel U Work)) → Calm counted name stepped advanced drained env x y [] [] frees outs → has_work x ≡ false → has_work y ≡ false
  calm_rests x y frees outs r rest = runs_rest r.run.events x y r.run.runs r.run.took_all r.run.landed_all r.calm rest
