-- What is so of each unit of a tenure, and of each item that waits for it, stays so.
use Rattle.std.proofs.Common.{◌≡◌, ℕ, suc, zero, ◌+◌, ◌≤◌, Bool, true, false, List, [], ◌∷◌, ◌++◌, refl, sym, ◌∙◌, subst, arith}
use Rattle.std.specs.Prelude.{◌==◌, ◌&&◌, ◌||◌, if◌then◌else◌, Option, Some, None, is_some, is_none, count_by}
use Rattle.std.specs.List.{AllByRecursion}
use Rattle.std.proofs.lemmas.List.Sums.{sum_by-cons}
use Rattle.ix_base.specs.declared.id.CoreId.{CoreId}
use Rattle.ix_desk.specs.declared.unit.DeskItem.{DeskItem}
use Rattle.ix_desk.specs.declared.unit.DeskItem.TheVariants.{Work, Tag, Cut, Start}
use Rattle.ix_desk.specs.Views.{Arrival, CutPiece, Group, Piece}
use Rattle.ix_desk.specs.Pieces.{awaits, begun, is_done, is_nil, ready, with_arrival, with_item}
use Rattle.ix_desk.specs.Groups as groups
use Rattle.ix_desk.specs.Groups.{arrivals_but, changed, cut_awaits, cut_but_done, cut_of, cut_piece_with, cut_seated, cut_unit, cut_with, current_awaits, current_seated, current_unit, current_with, done_of, fits, item_put, landed, shipped, tag_put, taken, unit_of}
use Rattle.ix_desk.specs.Steps.{batch, up_to, EachWorked, CutWorked, CurrentWorked, GroupWorked, PieceWorked, UnitStepped, cut_leaves, leave}
use Rattle.ix_history.specs.Events.{given, Parcel, GroupShips}
use Rattle.ix_deeds.specs.Acts.{DidStep, IsRight}
use Rattle.ix_deeds.specs.Right.{IsDeskItemRight, IsOpen, IsRightIn, WaitsRight}
use Rattle.ix_deeds.proofs.Lists.{all-append, all-left, all-right}
use Rattle.ix_deeds.proofs.Parts.{cut-less, leave-less, test-eq}

-- no more of the first items count than the budget
count-cons : {I : Type 0} (counted : I → Bool) (x : I) (xs : List I) → count_by counted (x ∷ xs) ≡ (if counted x then 1 else 0) + count_by counted xs
count-cons counted x xs = sum_by-cons (λ y. if counted y then 1 else 0) x xs

up-to-few : {I : Type 0} (counted : I → Bool) (n : ℕ) (xs : List I) → count_by counted (up_to counted n xs) ≤ n
up-to-few counted zero xs = omega arith
up-to-few counted (suc n) [] = omega arith
up-to-few counted (suc n) (x ∷ xs) = by_test (counted x) refl (up-to-few counted n xs) (up-to-few counted (suc n) xs)
  where
    by_test : (q : Bool) → counted x ≡ q → count_by counted (up_to counted n xs) ≤ n → count_by counted (up_to counted (suc n) xs) ≤ suc n
        → count_by counted (x ∷ up_to counted (if q then n else suc n) xs) ≤ suc n
    by_test true e few rest = rw count-cons (rw e (omega (arith, few)))
    by_test false e few rest = rw count-cons (rw e (omega (arith, rest)))

module _ {U I O E : Type 0} (counted : I → Bool) (name : I → ℕ) (stepped : U → List (ℕ × ℕ)) (advanced : U → E → ℕ → List I → U → Type 0) (lends : U → O → U → Type 0) (env : E) (bound : ℕ)
    (tenure_of : ℕ → ℕ) (named : ℕ → I) (IsUnit : U → Type 0)
    (stepping : (x : U) (k c : ℕ) (items : List I) (y : U) → DidStep counted name stepped advanced lends env tenure_of named bound x k c items y → IsUnit x → IsUnit y)
    (lending : (x : U) (out : O) (y : U) → lends x out y → IsUnit x → IsUnit y) where
  abbrev AllRight : ℕ → List I → Type 0
  AllRight k xs = AllByRecursion (IsRight name tenure_of named k) xs

  abbrev pub UnitHolds : Option U → Type 0
  UnitHolds None = Unit {0}
  UnitHolds (Some u) = IsUnit u

  pub record PieceHolds (p : Piece U I) : Type 0 where
    pub unit : UnitHolds p.unit
    pub waits : WaitsRight name tenure_of named p

  pub record ArrivalHolds (a : Arrival U I) : Type 0 where
    pub unit : IsUnit a.unit
    pub queue : AllRight a.tenure a.queue

  module _ (k : ℕ) where
    abbrev pub PieceAt : Piece U I → Type 0
    PieceAt p = p.tenure ≡ k → PieceHolds p

    abbrev pub CutAt : CutPiece U I → Type 0
    CutAt c = PieceAt c.piece

    abbrev pub CurrentAt : Option (Piece U I) → Type 0
    CurrentAt None = Unit {0}
    CurrentAt (Some p) = PieceAt p

    abbrev pub EarlyAt : Arrival U I → Type 0
    EarlyAt a = a.tenure ≡ k → ArrivalHolds a

    pub record Holds (x : Group U I) : Type 0 where
      pub cut : AllByRecursion CutAt x.cut
      pub current : CurrentAt x.current
      pub early : AllByRecursion EarlyAt x.early

    -- ## An item of the ring
    one-right : (j : ℕ) (x : I) → IsRight name tenure_of named j x → AllRight j (x ∷ [])
    one-right j x r = (r, tt)

    item-holds : (f : Bool) (x : I) (p : Piece U I) → p.tagged ≡ f → IsRight name tenure_of named (if f then suc p.tenure else p.tenure) x → PieceAt p → PieceAt (with_item p x)
    item-holds true x p tag right h e =
        let was = h e in
        record {
          unit = was.unit;
          waits = record {
            remote = was.waits.remote;
            local = subst (λ (b : Bool). AllRight p.tenure (if b then p.local else p.local ++ x ∷ [])) (sym tag) was.waits.local;
            behind = subst (λ (b : Bool). AllRight (suc p.tenure) (if b then p.behind ++ x ∷ [] else p.behind)) (sym tag) (all-append (IsRight name tenure_of named (suc p.tenure)) p.behind (x ∷ []) was.waits.behind (right, tt));
          };
        }
    item-holds false x p tag right h e =
        let was = h e in
        record {
          unit = was.unit;
          waits = record {
            remote = was.waits.remote;
            local = subst (λ (b : Bool). AllRight p.tenure (if b then p.local else p.local ++ x ∷ [])) (sym tag) (all-append (IsRight name tenure_of named p.tenure) p.local (x ∷ []) was.waits.local (right, tt));
            behind = subst (λ (b : Bool). AllRight (suc p.tenure) (if b then p.behind ++ x ∷ [] else p.behind)) (sym tag) was.waits.behind;
          };
        }

    put-holds : (o : Option ℕ) (f : Bool) (x : I) (p : Option (Piece U I)) → IsOpen o f p → IsRightIn name tenure_of named o f x → CurrentAt p → CurrentAt (item_put x p)
    put-holds o f x None op right h = tt
    put-holds None f x (Some p) op right h = absurd op
    put-holds (Some j) f x (Some p) op right h = item-holds f x p op.1 (subst (λ m. IsRight name tenure_of named (if f then suc m else m) x) (sym op.0) right) h

    tag-holds : (p : Option (Piece U I)) → CurrentAt p → CurrentAt (tag_put p)
    tag-holds None h = tt
    tag-holds (Some p) h = λ e. let was = h e in record { unit = was.unit; waits = record { remote = was.waits.remote; local = was.waits.local; behind = was.waits.behind } }

    cut-holds : (to : CoreId) (cs : List (CutPiece U I)) (p : Option (Piece U I)) → AllByRecursion CutAt cs → CurrentAt p → AllByRecursion CutAt (cs ++ cut_of to p)
    cut-holds to cs None h q = all-append CutAt cs [] h tt
    cut-holds to cs (Some p) h q = all-append CutAt cs (record { to = to.0; piece = p } ∷ []) h (q, tt)

    begun-holds : (j : ℕ) (bs : List (Arrival U I)) → AllByRecursion EarlyAt bs → PieceAt (begun j (groups.arrival_of j bs))
    begun-holds j [] h = λ e. record { unit = tt; waits = record { remote = tt; local = tt; behind = tt } }
    begun-holds j (a ∷ rest) h = by_test (a.tenure == j) refl (begun-holds j rest h.1)
      where
        by_test : (q : Bool) → (a.tenure == j) ≡ q → PieceAt (begun j (groups.arrival_of j rest)) → PieceAt (begun j (if q then Some a else groups.arrival_of j rest))
        by_test true t r e =
            let same = test-eq a.tenure j t in
            let was = h.0 (same ∙ e) in
            record { unit = was.unit; waits = record { remote = subst (λ m. AllRight m a.queue) same was.queue; local = tt; behind = tt } }
        by_test false t r e = r e

    but-holds : (j : ℕ) (bs : List (Arrival U I)) → AllByRecursion EarlyAt bs → AllByRecursion EarlyAt (arrivals_but j bs)
    but-holds j [] h = tt
    but-holds j (a ∷ rest) h = by_test (a.tenure == j) (but-holds j rest h.1)
      where
        by_test : (q : Bool) → AllByRecursion EarlyAt (arrivals_but j rest) → AllByRecursion EarlyAt (if q then rest else a ∷ arrivals_but j rest)
        by_test true r = h.1
        by_test false r = (h.0, r)

    pub taken-holds : (o : Option ℕ) (f : Bool) (x : Group U I) (it : DeskItem I) → IsOpen o f x.current → IsDeskItemRight name tenure_of named o f it → Holds x → Holds (taken x it)
    taken-holds o f x (Work i) op right h = record { cut = h.cut; current = put-holds o f i x.current op right h.current; early = h.early }
    taken-holds o f x Tag op right h = record { cut = h.cut; current = tag-holds x.current h.current; early = h.early }
    taken-holds o f x (Cut to) op right h = record { cut = cut-holds to x.cut x.current h.cut h.current; current = tt; early = h.early }
    taken-holds o f x (Start j) op right h = record { cut = h.cut; current = begun-holds j x.early h.early; early = but-holds j x.early h.early }

    pub given-holds : (o : Option ℕ) (f : Bool) (x : Group U I) (w : I) → IsOpen o f x.current → IsRightIn name tenure_of named o f w → Holds x → Holds (given w x)
    given-holds o f x w op right h = by_test (is_some x.current)
      where
        by_test : (q : Bool) → Holds (if q then taken x (Work w) else x)
        by_test true = taken-holds o f x (Work w) op right h
        by_test false = h

    -- ## A unit that arrives
    seated-piece : (a : Arrival U I) (p : Piece U I) → awaits a.tenure p ≡ true → EarlyAt a → PieceAt p → PieceAt (with_arrival a p)
    seated-piece a p t was h e =
        let same : p.tenure ≡ a.tenure = awaited (is_none p.unit) (is_nil p.remote) t in
        let got = was (sym same ∙ e) in
        let had = h e in
        record { unit = got.unit; waits = record { remote = subst (λ m. AllRight m a.queue) (sym same) got.queue; local = had.waits.local; behind = had.waits.behind } }
      where
        awaited : (q r : Bool) → (q && (r && (p.tenure == a.tenure))) ≡ true → p.tenure ≡ a.tenure
        awaited true true e = test-eq p.tenure a.tenure e
        awaited true false e = absurd (cc)
        awaited false r e = absurd (cc)

    seated-cut : (a : Arrival U I) (cs : List (CutPiece U I)) → EarlyAt a → AllByRecursion CutAt cs → AllByRecursion CutAt (cut_seated a cs)
    seated-cut a [] was h = tt
    seated-cut a (c ∷ cs) was h = by_test (awaits a.tenure c.piece) refl (seated-cut a cs was h.1)
      where
        by_test : (q : Bool) → awaits a.tenure c.piece ≡ q → AllByRecursion CutAt (cut_seated a cs) → AllByRecursion CutAt (if q then record { to = c.to; piece = with_arrival a c.piece } ∷ cs else c ∷ cut_seated a cs)
        by_test true t r = (seated-piece a c.piece t was h.0, h.1)
        by_test false t r = (h.0, r)

    seated-current : (a : Arrival U I) (p : Option (Piece U I)) → EarlyAt a → CurrentAt p → CurrentAt (current_seated a p)
    seated-current a None was h = tt
    seated-current a (Some p) was h = by_test (awaits a.tenure p) refl
      where
        by_test : (q : Bool) → awaits a.tenure p ≡ q → CurrentAt (if q then Some (with_arrival a p) else Some p)
        by_test true t = seated-piece a p t was h
        by_test false t = h

    pub landed-holds : (x : Group U I) (a : Arrival U I) → EarlyAt a → Holds x → Holds (landed x a)
    landed-holds x a was h = record {
      cut = seated-cut a x.cut was h.cut;
      current = current_by (cut_awaits a.tenure x.cut);
      early = early_by (cut_awaits a.tenure x.cut || current_awaits a.tenure x.current);
    }
      where
        current_by : (q : Bool) → CurrentAt (if q then x.current else current_seated a x.current)
        current_by true = h.current
        current_by false = seated-current a x.current was h.current

        early_by : (q : Bool) → AllByRecursion EarlyAt (if q then x.early else x.early ++ a ∷ [])
        early_by true = h.early
        early_by false = all-append EarlyAt x.early (a ∷ []) h.early (was, tt)

    -- ## Work
    unit-works : (here : ℕ) (items : List I) (x y : Option U) (j : ℕ) → UnitStepped counted name stepped advanced env here items x y → AllRight j items → count_by counted items ≤ bound → UnitHolds x → UnitHolds y
    unit-works here [] x y j did right few h = subst UnitHolds (sym did) h
    unit-works here (i ∷ items) (Some x) (Some y) j did right few h = stepping x j here (i ∷ items) y (record { names = did.0; advanced_so = did.1; right = right; few = few }) h
    unit-works here (i ∷ items) None y j did right few h = absurd did
    unit-works here (i ∷ items) (Some x) None j did right few h = absurd did

    batch-few : (b : ℕ) (p : Piece U I) → b ≤ bound → count_by counted (batch counted b p) ≤ bound
    batch-few b p le = by_test (is_some p.unit)
      where
        by_test : (q : Bool) → count_by counted (if q then up_to counted b (ready p) else []) ≤ bound
        by_test true = let few = up-to-few counted b (ready p) in omega (arith, few, le)
        by_test false = omega arith

    piece-works : (here b : ℕ) (p q : Piece U I) → b ≤ bound → PieceWorked counted name stepped advanced env here b p q → PieceAt p → PieceAt q
    piece-works here b p q le did h e =
        let was = h (sym did.tenure ∙ e) in
        let ready_right : AllRight p.tenure (batch counted b p ++ ready q) = subst (AllRight p.tenure) did.waited (all-append (IsRight name tenure_of named p.tenure) p.remote p.local was.waits.remote was.waits.local) in
        let done = all-left (IsRight name tenure_of named p.tenure) (batch counted b p) (ready q) ready_right in
        let rest = subst (λ m. AllRight m (ready q)) (sym did.tenure) (all-right (IsRight name tenure_of named p.tenure) (batch counted b p) (ready q) ready_right) in
        record {
          unit = unit-works here (batch counted b p) p.unit q.unit p.tenure did.unit done (batch-few b p le) was.unit;
          waits = record {
            remote = all-left (IsRight name tenure_of named q.tenure) q.remote q.local rest;
            local = all-right (IsRight name tenure_of named q.tenure) q.remote q.local rest;
            behind = subst (λ m. AllRight (suc m) q.behind) (sym did.tenure) (subst (AllRight (suc p.tenure)) (sym did.behind) was.waits.behind);
          };
        }

    cut-works : (here b : ℕ) (cs ds : List (CutPiece U I)) → b ≤ bound → EachWorked (cut_leaves counted) (CutWorked counted name stepped advanced env here) b cs ds → AllByRecursion CutAt cs → AllByRecursion CutAt ds
    cut-works here b [] [] le did h = tt
    cut-works here b (c ∷ cs) (d ∷ ds) le did h =
        let less = cut-less counted b c in
        (piece-works here b c.piece d.piece le did.0.piece h.0, cut-works here (cut_leaves counted b c) cs ds (omega (arith, less, le)) did.1 h.1)
    cut-works here b [] (d ∷ ds) le did h = absurd did
    cut-works here b (c ∷ cs) [] le did h = absurd did

    current-works : (here b : ℕ) (p q : Option (Piece U I)) → b ≤ bound → CurrentWorked counted name stepped advanced env here b p q → CurrentAt p → CurrentAt q
    current-works here b None None le did h = tt
    current-works here b (Some p) (Some q) le did h = piece-works here b p q le did h
    current-works here b None (Some q) le did h = absurd did
    current-works here b (Some p) None le did h = absurd did

    pub work-holds : (here b : ℕ) (x y : Group U I) → b ≤ bound → GroupWorked counted name stepped advanced env here b x y → Holds x → Holds y
    work-holds here b x y le did h =
        let less = leave-less (cut_leaves counted) (cut-less counted) b x.cut in
        record {
          cut = cut-works here b x.cut y.cut le did.cut h.cut;
          current = current-works here (leave (cut_leaves counted) b x.cut) x.current y.current (omega (arith, less, le)) did.current h.current;
          early = subst (AllByRecursion EarlyAt) (sym did.early) h.early;
        }

    -- ## A unit that leaves
    but-done-holds : (cs : List (CutPiece U I)) → AllByRecursion CutAt cs → AllByRecursion CutAt (cut_but_done cs)
    but-done-holds [] h = tt
    but-done-holds (c ∷ cs) h = by_test (is_done c.piece) (but-done-holds cs h.1)
      where
        by_test : (q : Bool) → AllByRecursion CutAt (cut_but_done cs) → AllByRecursion CutAt (if q then cs else c ∷ cut_but_done cs)
        by_test true r = h.1
        by_test false r = (h.0, r)

    pub done-holds : (cs : List (CutPiece U I)) (c : CutPiece U I) → done_of cs ≡ Some c → AllByRecursion CutAt cs → CutAt c
    done-holds [] c e h = absurd (cc)
    done-holds (d ∷ cs) c e h = by_test (is_done d.piece) e (λ r. done-holds cs c r h.1)
      where
        by_test : (q : Bool) → (if q then Some d else done_of cs) ≡ Some c → (done_of cs ≡ Some c → CutAt c) → CutAt c
        by_test true e f = let same : d ≡ c = cc in subst CutAt same h.0
        by_test false e f = f e

    pub ships-holds : (x y : Group U I) (s : Parcel U I) → GroupShips x y s → Holds x → Holds y
    ships-holds x y s did h = subst Holds (sym did.over) (record { cut = but-done-holds x.cut h.cut; current = h.current; early = h.early })

    -- ## A unit that is lent
    cut-lent : (cs : List (CutPiece U I)) (v : U) → ((u : U) → cut_unit cs ≡ Some u → IsUnit u → IsUnit v) → AllByRecursion CutAt cs → AllByRecursion CutAt (cut_with cs v)
    cut-lent [] v f h = tt
    cut-lent (c ∷ cs) v f h = by_unit c.piece.unit refl f (λ g. cut-lent cs v g h.1)
      where
        by_unit : (o : Option U) → c.piece.unit ≡ o → ((u : U) → (if is_some o then o else cut_unit cs) ≡ Some u → IsUnit u → IsUnit v)
            → (((u : U) → cut_unit cs ≡ Some u → IsUnit u → IsUnit v) → AllByRecursion CutAt (cut_with cs v)) → AllByRecursion CutAt (if is_some o then cut_piece_with c v ∷ cs else c ∷ cut_with cs v)
        by_unit (Some u) e f r = ((λ t. let was = h.0 t in record { unit = f u refl (subst UnitHolds e was.unit); waits = record { remote = was.waits.remote; local = was.waits.local; behind = was.waits.behind } }), h.1)
        by_unit None e f r = (h.0, r f)

    current-lent : (p : Option (Piece U I)) (v : U) → ((u : U) → current_unit p ≡ Some u → IsUnit u → IsUnit v) → is_some (current_unit p) ≡ true → CurrentAt p → CurrentAt (current_with p v)
    current-lent None v f some h = tt
    current-lent (Some p) v f some h = λ e. let was = h e in record { unit = by_unit p.unit refl f some was.unit; waits = record { remote = was.waits.remote; local = was.waits.local; behind = was.waits.behind } }
      where
        by_unit : (o : Option U) → p.unit ≡ o → ((u : U) → o ≡ Some u → IsUnit u → IsUnit v) → is_some o ≡ true → UnitHolds o → IsUnit v
        by_unit (Some u) same f some was = f u refl was
        by_unit None same f some was = absurd (cc)

    pub lent-holds : (x : Group U I) (u : U) (out : O) (v : U) → unit_of x ≡ Some u → lends u out v → Holds x → Holds (changed x v)
    unfolding changed
    lent-holds x u out v here lent h = by_cut (cut_unit x.cut) refl here
      where
        for_unit : (w : U) → w ≡ u → IsUnit w → IsUnit v
        for_unit w e is = lending u out v lent (subst IsUnit e is)

        by_cut : (o : Option U) → cut_unit x.cut ≡ o → (if is_some o then o else current_unit x.current) ≡ Some u
            → Holds (record { cut = cut_with x.cut v; current = if is_some o then x.current else current_with x.current v; early = x.early; arrived = x.arrived; last = x.last })
        by_cut (Some w) e is = record { cut = cut-lent x.cut v (λ z same. for_unit z (let a = sym same ∙ e in cc)) h.cut; current = h.current; early = h.early }
        by_cut None e is = record {
          cut = cut-lent x.cut v (λ z same was. absurd (let a = sym same ∙ e in cc)) h.cut;
          current = current-lent x.current v (λ z same. for_unit z (let a = sym same ∙ is in cc)) (rw is refl) h.current;
          early = h.early;
        }
