-- What a group's desks hold of a tenure follows the account, event by event.
use Rattle.std.proofs.Common.{◌≡◌, ℕ, suc, ◌+◌, ◌<◌, ◌≤◌, Bool, true, false, not, ◌&&◌, ◌||◌, List, [], ◌∷◌, ◌++◌, refl, sym, ap, ◌∙◌, subst, arith, append_assoc, append-nil, ◌⊎◌, inl, inr, le_trans}
use Rattle.std.specs.Prelude.{◌==◌, if◌then◌else◌, Option, Some, None, is_some, is_none, nat_lt}
use Rattle.std.proofs.lemmas.Bool.Decides.{nat_tests}
use Rattle.ix_base.specs.declared.id.CoreId.{CoreId}
use Rattle.ix_desk.specs.declared.unit.DeskItem.{DeskItem}
use Rattle.ix_desk.specs.declared.unit.DeskItem.TheVariants.{Work, Tag, Cut, Start}
use Rattle.ix_desk.specs.Views.{Piece, CutPiece, Arrival, Group}
use Rattle.ix_desk.specs.Tenures.{has_arrived}
use Rattle.ix_desk.specs.Pieces.{with_item, with_tag, with_arrival, with_unit, awaits, is_done, is_nil, begun, joined}
use Rattle.ix_desk.specs.Steps.{PieceWorked, GroupWorked, batch, UnitStepped}
use Rattle.ix_desk.specs.Groups.{fits, taken, landed, shipped, item_put, tag_put, cut_of, arrival_of, cut_awaits, cut_seated, current_awaits, current_seated, done_of, cut_but_done, unit_of, cut_unit, current_unit, cut_with, cut_piece_with, current_with, changed as changed_group}
use Rattle.ix_history.specs.Events.{Parcel, Part, nothing, item, common, arrival, work, parcel, loan, given, GroupStep, GroupShips}
use Rattle.ix_history.specs.Pieces.{Account, noted, item_noted, cut_at, current_at, early_at, Deed, batch as step_of, loaned, items_in, Did, Chain, Lived, Holds, Once, Stands, unbegun, opened, was_cut, over}
use Rattle.ix_history.proofs.Joining.{runs-join}
use Rattle.ix_history.proofs.Only.{cut_at-append, early_at-append, put-at, tag-at, cut-of-at, awaits-at, current-awaits-at, seated-at, seated-other, current-seated-at, current-seated-other, first_of, rest_of, arrival-at, but-at, but-other, done-here, done-other, arrived-append, worked-none, worked-one, current-none, current-one}

-- nothing became of tenure k
pub record Same {U I : Type 0} (k : ℕ) (g h : Group U I) : Type 0 where
  pub cut : cut_at k h.cut ≡ cut_at k g.cut
  pub current : current_at k h.current ≡ current_at k g.current
  pub early : early_at k h.early ≡ early_at k g.early
  pub arrived : has_arrived k h.arrived ≡ has_arrived k g.arrived
  pub last : g.last ≤ h.last

module _ {U I O E : Type 0} (counted : I → Bool) (name : I → ℕ) (stepped : U → List (ℕ × ℕ)) (advanced : U → E → ℕ → List I → U → Type 0) (lends : U → O → U → Type 0) (env : E) (here : ℕ) where
  abbrev Stand : ℕ → Account U I → Group U I → Type 0
  Stand k a g = Stands counted name stepped advanced lends env here k a g

  abbrev Live : List (Arrival U I) → Option U → List I → List I → List I → Type 0
  Live came u remote local before = Lived counted name stepped advanced lends env here came u remote local before

  abbrev Hold : ℕ → Account U I → Piece U I → Type 0
  Hold k a p = Holds counted name stepped advanced lends env here k a p

  once-same : (k : ℕ) (a : Account U I) (g h : Group U I) → Same k g h → Once counted name stepped advanced lends env here k a (has_arrived k g.arrived) → Once counted name stepped advanced lends env here k a (has_arrived k h.arrived)
  once-same k a g h same o = subst (λ b. Once counted name stepped advanced lends env here k a b) (sym same.arrived) o

  stands-same : (k : ℕ) (a : Account U I) (g h : Group U I) → Same k g h → Stand k a g → Stand k a h
  stands-same k a g h same (unbegun s) = unbegun (record {
    begun = s.begun;
    is_open = s.is_open;
    tagged = s.tagged;
    before = s.before;
    behind = s.behind;
    to = s.to;
    gone = s.gone;
    no_cut = same.cut ∙ s.no_cut;
    no_current = same.current ∙ s.no_current;
    early = same.early ∙ s.early;
    few = s.few;
    once = once-same k a g h same s.once;
  })
  stands-same k a g h same (opened s) = opened (record {
    piece = s.piece;
    is = same.current ∙ s.is;
    holds = s.holds;
    begun = s.begun;
    is_open = s.is_open;
    to = s.to;
    gone = s.gone;
    no_cut = same.cut ∙ s.no_cut;
    no_early = same.early ∙ s.no_early;
    last = le_trans s.last same.last;
    once = once-same k a g h same s.once;
  })
  stands-same k a g h same (was_cut s) = was_cut (record {
    piece = s.piece;
    is = same.cut ∙ s.is;
    holds = s.holds;
    begun = s.begun;
    is_open = s.is_open;
    to = s.to;
    gone = s.gone;
    no_current = same.current ∙ s.no_current;
    no_early = same.early ∙ s.no_early;
    last = le_trans s.last same.last;
    once = once-same k a g h same s.once;
  })
  stands-same k a g h same (over s) = over (record {
    went = s.went;
    begun = s.begun;
    is_open = s.is_open;
    no_cut = same.cut ∙ s.no_cut;
    no_current = same.current ∙ s.no_current;
    no_early = same.early ∙ s.no_early;
    last = le_trans s.last same.last;
    once = once-same k a g h same s.once;
  })

  -- an item goes to the open piece
  live-item : (x : I) (q : Bool) (came : List (Arrival U I)) (u : Option U) (remote local before : List I) → Live came u remote local before
      → Live came u remote (if q then local else local ++ x ∷ []) (if q then before else before ++ x ∷ [])
  live-item x true came u remote local before l = l
  live-item x false [] None remote local before l = (l.0, ap (λ xs. xs ++ x ∷ []) l.1)
  live-item x false [] (Some u) remote local before l = absurd l
  live-item x false (c ∷ []) None remote local before l = absurd l
  live-item x false (c ∷ []) (Some u) remote local before l = record {
    done = l.done;
    whole = sym (append_assoc c.queue before (x ∷ [])) ∙ ap (λ xs. xs ++ x ∷ []) l.whole ∙ append_assoc l.done (remote ++ local) (x ∷ []) ∙ ap (λ xs. l.done ++ xs) (append_assoc remote local (x ∷ []));
    chain = l.chain;
  }
  live-item x false (c ∷ d ∷ rest) None remote local before l = absurd l
  live-item x false (c ∷ d ∷ rest) (Some u) remote local before l = absurd l

  -- the account of a piece that isn't open stays as it is
  closed : {X : Type 0} (q : Bool) (x y : X) → q ≡ false → (if q then x else y) ≡ y
  closed q x y e = rw e refl

  open-is : {X : Type 0} (q : Bool) (x y : X) → q ≡ true → (if q then x else y) ≡ x
  open-is q x y e = rw e refl

  unchanged : (k : ℕ) (a b : Account U I) (g h : Group U I) → b ≡ a → Same k g h → Stand k a g → Stand k b h
  unchanged k a b g h e same s = subst (λ z. Stand k z h) (sym e) (stands-same k a g h same s)

  changed : (k : ℕ) (a b : Account U I) (h : Group U I) → b ≡ a → Stand k a h → Stand k b h
  changed k a b h e s = subst (λ z. Stand k z h) (sym e) s

  same-work : (k : ℕ) (x : I) (g : Group U I) → current_at k g.current ≡ None → Same k g (taken g (Work x))
  same-work k x g none = record { cut = refl; current = put-at k x g.current ∙ ap (item_put x) none ∙ sym none; early = refl; arrived = refl; last = omega arith }

  same-tag : (k : ℕ) (g : Group U I) → current_at k g.current ≡ None → Same k g (taken g Tag)
  same-tag k g none = record { cut = refl; current = tag-at k g.current ∙ ap tag_put none ∙ sym none; early = refl; arrived = refl; last = omega arith }

  same-cut : (k : ℕ) (c : CoreId) (g : Group U I) → current_at k g.current ≡ None → Same k g (taken g (Cut c))
  same-cut k c g none = record {
    cut = cut_at-append k g.cut (cut_of c g.current) ∙ ap (λ xs. cut_at k g.cut ++ xs) (cut-of-at k c g.current ∙ ap (cut_of c) none) ∙ append-nil (cut_at k g.cut);
    current = sym none;
    early = refl;
    arrived = refl;
    last = omega arith;
  }

  work-keeps : (k : ℕ) (x : I) (a : Account U I) (g : Group U I) → Stand k a g → Stand k (item_noted k a (Work x)) (taken g (Work x))
  work-keeps k x a g (unbegun s) = unchanged k a (item_noted k a (Work x)) g (taken g (Work x)) (closed a.is_open _ a s.is_open) (same-work k x g s.no_current) (unbegun s)
  work-keeps k x a g (was_cut s) = unchanged k a (item_noted k a (Work x)) g (taken g (Work x)) (closed a.is_open _ a s.is_open) (same-work k x g s.no_current) (was_cut s)
  work-keeps k x a g (over s) = unchanged k a (item_noted k a (Work x)) g (taken g (Work x)) (closed a.is_open _ a s.is_open) (same-work k x g s.no_current) (over s)
  work-keeps k x a g (opened s) = changed k _ (item_noted k a (Work x)) (taken g (Work x)) (open-is a.is_open _ a s.is_open) (opened (record {
    piece = with_item s.piece x;
    is = put-at k x g.current ∙ ap (item_put x) s.is;
    holds = record {
      tenure = s.holds.tenure;
      tagged = s.holds.tagged;
      behind = rw s.holds.tagged (ap (λ xs. if a.tagged then xs ++ x ∷ [] else xs) s.holds.behind);
      lived = rw s.holds.tagged (live-item x a.tagged a.came s.piece.unit s.piece.remote s.piece.local a.before s.holds.lived);
    };
    begun = s.begun;
    is_open = s.is_open;
    to = s.to;
    gone = s.gone;
    no_cut = s.no_cut;
    no_early = s.no_early;
    last = s.last;
    once = s.once;
  }))

  tag-keeps : (k : ℕ) (a : Account U I) (g : Group U I) → Stand k a g → Stand k (item_noted k a Tag) (taken g Tag)
  tag-keeps k a g (unbegun s) = unchanged k a (item_noted k a Tag) g (taken g Tag) (closed a.is_open _ a s.is_open) (same-tag k g s.no_current) (unbegun s)
  tag-keeps k a g (was_cut s) = unchanged k a (item_noted k a Tag) g (taken g Tag) (closed a.is_open _ a s.is_open) (same-tag k g s.no_current) (was_cut s)
  tag-keeps k a g (over s) = unchanged k a (item_noted k a Tag) g (taken g Tag) (closed a.is_open _ a s.is_open) (same-tag k g s.no_current) (over s)
  tag-keeps k a g (opened s) = changed k _ (item_noted k a Tag) (taken g Tag) (open-is a.is_open _ a s.is_open) (opened (record {
    piece = with_tag s.piece;
    is = tag-at k g.current ∙ ap tag_put s.is;
    holds = record { tenure = s.holds.tenure; tagged = refl; behind = s.holds.behind; lived = s.holds.lived };
    begun = s.begun;
    is_open = s.is_open;
    to = s.to;
    gone = s.gone;
    no_cut = s.no_cut;
    no_early = s.no_early;
    last = s.last;
    once = s.once;
  }))

  cut-keeps : (k : ℕ) (c : CoreId) (a : Account U I) (g : Group U I) → Stand k a g → Stand k (item_noted k a (Cut c)) (taken g (Cut c))
  cut-keeps k c a g (unbegun s) = unchanged k a (item_noted k a (Cut c)) g (taken g (Cut c)) (closed a.is_open _ a s.is_open) (same-cut k c g s.no_current) (unbegun s)
  cut-keeps k c a g (was_cut s) = unchanged k a (item_noted k a (Cut c)) g (taken g (Cut c)) (closed a.is_open _ a s.is_open) (same-cut k c g s.no_current) (was_cut s)
  cut-keeps k c a g (over s) = unchanged k a (item_noted k a (Cut c)) g (taken g (Cut c)) (closed a.is_open _ a s.is_open) (same-cut k c g s.no_current) (over s)
  cut-keeps k c a g (opened s) = changed k _ (item_noted k a (Cut c)) (taken g (Cut c)) (open-is a.is_open _ a s.is_open) (was_cut (record {
    piece = record { to = c.0; piece = s.piece };
    is = cut_at-append k g.cut (cut_of c g.current) ∙ ap (λ xs. xs ++ cut_at k (cut_of c g.current)) s.no_cut ∙ cut-of-at k c g.current ∙ ap (cut_of c) s.is;
    holds = record { tenure = s.holds.tenure; tagged = s.holds.tagged; behind = s.holds.behind; lived = s.holds.lived };
    begun = s.begun;
    is_open = refl;
    to = ap (λ xs. xs ++ c.0 ∷ []) s.to;
    gone = s.gone;
    no_current = refl;
    no_early = s.no_early;
    last = s.last;
    once = s.once;
  }))

  test-eq : (h g : ℕ) → (h == g) ≡ true → h ≡ g
  test-eq h g e = grind (arith, nat_tests)

  self-test : (n : ℕ) → (n == n) ≡ true
  self-test n = grind (arith, nat_tests)

  -- a piece begins
  begun-tenure : (k : ℕ) (x : Option (Arrival U I)) → (begun k x).tenure ≡ k
  begun-tenure k None = refl
  begun-tenure k (Some x) = refl

  begun-at : (k : ℕ) (x : Option (Arrival U I)) → current_at k (Some (begun k x)) ≡ Some (begun k x)
  begun-at k x = rw (begun-tenure k x, self-test k) refl

  begun-other : (j k : ℕ) (x : Option (Arrival U I)) → (j == k) ≡ false → current_at k (Some (begun j x)) ≡ None
  begun-other j k x e = rw (begun-tenure j x, e) refl

  nil-chain : (u : U) → Chain counted name stepped advanced lends env here u [] u
  nil-chain u = record { deeds = []; whole = refl; runs = refl }

  begun-holds : (k : ℕ) (a : Account U I) (x : Option (Arrival U I)) → a.tagged ≡ false → a.before ≡ [] → a.behind ≡ []
      → ((x ≡ None) × (a.came ≡ [])) ⊎ ((b : Arrival U I) × (x ≡ Some b) × (a.came ≡ b ∷ [])) → Hold k a (begun k x)
  begun-holds k a x tagged before behind (inl f) = subst (λ z. Hold k a (begun k z)) (sym f.0) (record {
    tenure = refl;
    tagged = sym tagged;
    behind = sym behind;
    lived = subst (λ c. Live c None [] [] a.before) (sym f.1) (refl, sym before);
  })
  begun-holds k a x tagged before behind (inr f) = subst (λ z. Hold k a (begun k z)) (sym f.1) (record {
    tenure = refl;
    tagged = sym tagged;
    behind = sym behind;
    lived = subst (λ c. Live c (Some f.0.unit) f.0.queue [] a.before) (sym f.2) (record {
      done = [];
      whole = ap (λ xs. f.0.queue ++ xs) before;
      chain = nil-chain f.0.unit;
    });
  })

  start-here : (k : ℕ) (a : Account U I) (g : Group U I) → g.last < k → Stand k a g → Stand k (item_noted k a (Start k)) (taken g (Start k))
  start-here k a g later (unbegun s) =
      let found : ((arrival_of k g.early ≡ None) × (a.came ≡ [])) ⊎ ((b : Arrival U I) × (arrival_of k g.early ≡ Some b) × (a.came ≡ b ∷ [])) =
      elim s.few [
        | inl f ↦ inl (arrival-at k g.early ∙ ap first_of (s.early ∙ f), f)
        | inr f ↦ inr (f.0, arrival-at k g.early ∙ ap first_of (s.early ∙ f.1), f.1)
      ] in
      let rest : rest_of a.came ≡ [] = elim s.few [ inl f ↦ ap rest_of f | inr f ↦ ap rest_of f.1 ] in
      changed k _ (item_noted k a (Start k)) (taken g (Start k)) (open-is (k == k) _ _ (self-test k)) (opened (record {
        piece = begun k (arrival_of k g.early);
        is = begun-at k (arrival_of k g.early);
        holds = let h = begun-holds k a (arrival_of k g.early) s.tagged s.before s.behind found in record { tenure = h.tenure; tagged = h.tagged ∙ s.tagged; behind = h.behind; lived = h.lived };
        begun = refl;
        is_open = refl;
        to = s.to;
        gone = s.gone;
        no_cut = s.no_cut;
        no_early = but-at k g.early ∙ ap rest_of s.early ∙ rest;
        last = omega arith;
        once = s.once;
      }))
  start-here k a g later (opened s) = absurd (let l = s.last in omega arith)
  start-here k a g later (was_cut s) = absurd (let l = s.last in omega arith)
  start-here k a g later (over s) = absurd (let l = s.last in omega arith)

  none-is : {X : Type 0} (p : Option X) → is_none p ≡ true → p ≡ None
  none-is None e = refl
  none-is (Some x) e = absurd (cc)

  left : (p q : Bool) → (p && q) ≡ true → p ≡ true
  left true q e = refl
  left false q e = e

  right : (p q : Bool) → (p && q) ≡ true → q ≡ true
  right true q e = e
  right false q e = absurd (cc)

  below : (m n : ℕ) → nat_lt m n ≡ true → m < n
  below m n e = grind (arith, nat_tests)

  abbrev opening_set : Account U I → Bool → Account U I
  opening_set a b = record { begun = a.begun; is_open = b; tagged = a.tagged; before = a.before; behind = a.behind; to = a.to; came = a.came; gone = a.gone }

  -- no piece is open where none is there
  shut : (k : ℕ) (a : Account U I) (g : Group U I) → g.current ≡ None → Stand k a g → a.is_open ≡ false
  shut k a g empty (unbegun s) = s.is_open
  shut k a g empty (opened s) = let none : current_at k g.current ≡ None = ap (current_at k) empty in let some = s.is in absurd (cc)
  shut k a g empty (was_cut s) = s.is_open
  shut k a g empty (over s) = s.is_open

  start-keeps : (k j : ℕ) (a : Account U I) (g : Group U I) → fits g (Start j) ≡ true → Stand k a g → Stand k (item_noted k a (Start j)) (taken g (Start j))
  start-keeps k j a g f s =
      let empty = none-is g.current (left _ _ f) in
      let later = below g.last j (left _ _ (right (is_none g.current) _ f)) in
      elim (j == k) as (λ t. (j == k) ≡ t → Stand k (item_noted k a (Start j)) (taken g (Start j))) [
        | true ↦ λ t.
            let same = test-eq j k t in
            subst (λ n. Stand k (item_noted k a (Start n)) (taken g (Start n))) (sym same) (start-here k a g (subst (λ n. g.last < n) same later) s)
        | false ↦ λ t. unchanged k a (item_noted k a (Start j)) g (taken g (Start j)) (closed (j == k) _ _ t ∙ ap (λ b. opening_set a b) (sym (shut k a g empty s))) (record {
          cut = refl;
          current = begun-other j k (arrival_of j g.early) t ∙ sym (ap (current_at k) empty);
          early = but-other k j g.early t;
          arrived = refl;
          last = omega arith;
        }) s
      ] refl

  item-keeps : (k : ℕ) (a : Account U I) (g : Group U I) (it : DeskItem I) → fits g it ≡ true → Stand k a g → Stand k (item_noted k a it) (taken g it)
  item-keeps k a g (Work x) f s = work-keeps k x a g s
  item-keeps k a g Tag f s = tag-keeps k a g s
  item-keeps k a g (Cut c) f s = cut-keeps k c a g s
  item-keeps k a g (Start j) f s = start-keeps k j a g f s

  -- a unit arrives
  live-none : (u : Option U) (r l b : List I) → Live [] u r l b → (u ≡ None) × (r ≡ []) × (l ≡ b)
  live-none None r l b e = (refl, e.0, e.1)
  live-none (Some x) r l b e = absurd e

  waits-here : (k : ℕ) (p : Piece U I) → p.unit ≡ None → p.remote ≡ [] → p.tenure ≡ k → awaits k p ≡ true
  waits-here k p u r t = rw (u, r, t, self-test k) refl

  not-both : (p b : Bool) → (p && not (b || true)) ≡ true → ⊥
  not-both true true e = absurd (cc)
  not-both true false e = absurd (cc)
  not-both false b e = absurd (cc)

  or-false : (b : Bool) → (b || false) ≡ b
  or-false true = refl
  or-false false = refl

  early-if : (k : ℕ) (x : Arrival U I) (q : Bool) (xs : List (Arrival U I)) → (x.tenure == k) ≡ false → early_at k (if q then xs else xs ++ x ∷ []) ≡ early_at k xs
  early-if k x true xs t = refl
  early-if k x false xs t = early_at-append k xs (x ∷ []) ∙ (rw t (append-nil (early_at k xs)))

  current-if : (k : ℕ) (x : Arrival U I) (q : Bool) (p : Option (Piece U I)) → (x.tenure == k) ≡ false → current_at k (if q then p else current_seated x p) ≡ current_at k p
  current-if k x true p t = refl
  current-if k x false p t = current-seated-other k x p t

  none-if : (x : Arrival U I) (q : Bool) (p : Option (Piece U I)) → current_at x.tenure p ≡ None → current_at x.tenure (if q then p else current_seated x p) ≡ None
  none-if x true p e = e
  none-if x false p e = current-seated-at x.tenure x p refl ∙ ap (current_seated x) e

  -- the account of an arrival
  abbrev with_came : Account U I → Arrival U I → Account U I
  with_came a x = record { begun = a.begun; is_open = a.is_open; tagged = a.tagged; before = a.before; behind = a.behind; to = a.to; came = a.came ++ x ∷ []; gone = a.gone }

  seated-holds : (x : Arrival U I) (a : Account U I) (p : Piece U I) → a.came ≡ [] → Hold x.tenure a p → Hold x.tenure (with_came a x) (with_arrival x p)
  seated-holds x a p none h =
      let is = live-none p.unit p.remote p.local a.before (subst (λ c. Live c p.unit p.remote p.local a.before) none h.lived) in
      record {
        tenure = h.tenure;
        tagged = h.tagged;
        behind = h.behind;
        lived = subst (λ c. Live (c ++ x ∷ []) (Some x.unit) x.queue p.local a.before) (sym none) (record {
          done = [];
          whole = ap (λ xs. x.queue ++ xs) (sym is.2);
          chain = nil-chain x.unit;
        });
      }

  came-holds : (x : Arrival U I) (a : Account U I) (p : Piece U I) → a.came ≡ [] → Hold x.tenure a p → awaits x.tenure p ≡ true
  came-holds x a p none h =
      let is = live-none p.unit p.remote p.local a.before (subst (λ c. Live c p.unit p.remote p.local a.before) none h.lived) in
      waits-here x.tenure p is.0 is.1 h.tenure

  arrive-here : (x : Arrival U I) (a : Account U I) (g : Group U I) → (nat_lt 0 x.tenure && not (has_arrived x.tenure g.arrived)) ≡ true
      → Stand x.tenure a g → Stand x.tenure (with_came a x) (landed g x)
  arrive-here x a g w (unbegun s) =
      let none = s.once w in
      let first : cut_awaits x.tenure g.cut ≡ false = awaits-at x.tenure g.cut ∙ ap (cut_awaits x.tenure) s.no_cut in
      let second : current_awaits x.tenure g.current ≡ false = current-awaits-at x.tenure g.current ∙ ap (current_awaits x.tenure) s.no_current in
      unbegun (record {
        begun = s.begun;
        is_open = s.is_open;
        tagged = s.tagged;
        before = s.before;
        behind = s.behind;
        to = s.to;
        gone = s.gone;
        no_cut = seated-at x.tenure x g.cut refl ∙ ap (cut_seated x) s.no_cut;
        no_current = none-if x (cut_awaits x.tenure g.cut) g.current s.no_current;
        early = rw (first, second) (early_at-append x.tenure g.early (x ∷ []) ∙ (rw (self-test x.tenure) (ap (λ xs. xs ++ x ∷ []) s.early)));
        few = inr (x, ap (λ xs. xs ++ x ∷ []) none);
        once = λ again. absurd (not-both (nat_lt 0 x.tenure) (has_arrived x.tenure g.arrived) (subst (λ b. (nat_lt 0 x.tenure && not b) ≡ true) (arrived-append x.tenure x.tenure g.arrived ∙ ap (λ b. has_arrived x.tenure g.arrived || b) (self-test x.tenure)) again));
      })
  arrive-here x a g w (opened s) =
      let none = s.once w in
      let waiting = came-holds x a s.piece none s.holds in
      let first : cut_awaits x.tenure g.cut ≡ false = awaits-at x.tenure g.cut ∙ ap (cut_awaits x.tenure) s.no_cut in
      let second : current_awaits x.tenure g.current ≡ true = current-awaits-at x.tenure g.current ∙ ap (current_awaits x.tenure) s.is ∙ waiting in
      opened (record {
        piece = with_arrival x s.piece;
        is = rw first (current-seated-at x.tenure x g.current refl ∙ ap (current_seated x) s.is ∙ (rw waiting refl));
        holds = seated-holds x a s.piece none s.holds;
        begun = s.begun;
        is_open = s.is_open;
        to = s.to;
        gone = s.gone;
        no_cut = seated-at x.tenure x g.cut refl ∙ ap (cut_seated x) s.no_cut;
        no_early = rw (first, second) s.no_early;
        last = s.last;
        once = λ again. absurd (not-both (nat_lt 0 x.tenure) (has_arrived x.tenure g.arrived) (subst (λ b. (nat_lt 0 x.tenure && not b) ≡ true) (arrived-append x.tenure x.tenure g.arrived ∙ ap (λ b. has_arrived x.tenure g.arrived || b) (self-test x.tenure)) again));
      })
  arrive-here x a g w (was_cut s) =
      let none = s.once w in
      let waiting = came-holds x a s.piece.piece none s.holds in
      let first : cut_awaits x.tenure g.cut ≡ true = awaits-at x.tenure g.cut ∙ ap (cut_awaits x.tenure) s.is ∙ (rw waiting refl) in
      was_cut (record {
        piece = record { to = s.piece.to; piece = with_arrival x s.piece.piece };
        is = seated-at x.tenure x g.cut refl ∙ ap (cut_seated x) s.is ∙ (rw waiting refl);
        holds = seated-holds x a s.piece.piece none s.holds;
        begun = s.begun;
        is_open = s.is_open;
        to = s.to;
        gone = s.gone;
        no_current = rw first s.no_current;
        no_early = rw first s.no_early;
        last = s.last;
        once = λ again. absurd (not-both (nat_lt 0 x.tenure) (has_arrived x.tenure g.arrived) (subst (λ b. (nat_lt 0 x.tenure && not b) ≡ true) (arrived-append x.tenure x.tenure g.arrived ∙ ap (λ b. has_arrived x.tenure g.arrived || b) (self-test x.tenure)) again));
      })
  arrive-here x a g w (over s) = let none = s.once w in let some = s.went.came in absurd (cc)

  arrive-keeps : (k : ℕ) (x : Arrival U I) (a : Account U I) (g : Group U I) → (nat_lt 0 x.tenure && not (has_arrived x.tenure g.arrived)) ≡ true
      → Stand k a g → Stand k (noted {O = O} k a (arrival x)) (landed g x)
  arrive-keeps k x a g w s =
      elim (x.tenure == k) as (λ t. (x.tenure == k) ≡ t → Stand k (if t then with_came a x else a) (landed g x)) [
        | true ↦ λ t.
            let same = test-eq x.tenure k t in
            subst (λ n. Stand n (with_came a x) (landed g x)) same (arrive-here x a g w (subst (λ n. Stand n a g) (sym same) s))
        | false ↦ λ t. stands-same k a g (landed g x) (record {
          cut = seated-other k x g.cut t;
          current = current-if k x (cut_awaits x.tenure g.cut) g.current t;
          early = early-if k x (cut_awaits x.tenure g.cut || current_awaits x.tenure g.current) g.early t;
          arrived = arrived-append k x.tenure g.arrived ∙ ap (λ b. has_arrived k g.arrived || b) t ∙ or-false (has_arrived k g.arrived);
          last = omega arith;
        }) s
      ] refl

  -- work was done
  joined-snoc : (bs : List (Deed I O)) (b : Deed I O) → joined items_in (bs ++ b ∷ []) ≡ joined items_in bs ++ items_in b
  joined-snoc [] b = append-nil (items_in b)
  joined-snoc (c ∷ bs) b = ap (λ xs. items_in c ++ xs) (joined-snoc bs b) ∙ sym (append_assoc (items_in c) (joined items_in bs) (items_in b))

  more-chain : (x : U) (done : List I) (deed : Deed I O) (y z : U) → Chain counted name stepped advanced lends env here x done y
      → Did counted name stepped advanced lends env here y deed z → Chain counted name stepped advanced lends env here x (done ++ items_in deed) z
  more-chain x done deed y z c step = record {
    deeds = c.deeds ++ deed ∷ [];
    whole = joined-snoc c.deeds deed ∙ ap (λ xs. xs ++ items_in deed) c.whole;
    runs = runs-join (Did counted name stepped advanced lends env here) x y z c.deeds (deed ∷ []) c.runs (z, step, refl);
  }

  abbrev Step : List I → Option U → Option U → Type 0
  Step items u v = UnitStepped counted name stepped advanced env here items u v

  live-worked : (came : List (Arrival U I)) (u v : Option U) (r l r' l' before items : List I) → r ++ l ≡ items ++ (r' ++ l') → Step items u v
      → (is_some u ≡ false → r' ≡ r) → (is_some u ≡ false → items ≡ []) → Live came u r l before → Live came v r' l' before
  live-worked [] None v r l r' l' before items w st rest idle e =
      let none : v ≡ None = subst (λ (xs : List I). Step xs None v) (idle refl) st in
      let remote : r' ≡ [] = rest refl ∙ e.0 in
      let old : r ++ l ≡ l = ap (λ xs. xs ++ l) e.0 in
      let new : items ++ (r' ++ l') ≡ l' = ap (λ xs. xs ++ (r' ++ l')) (idle refl) ∙ ap (λ xs. xs ++ l') remote in
      let local : l' ≡ before = sym new ∙ sym w ∙ old ∙ e.1 in
      subst (λ z. Live [] z r' l' before) (sym none) (remote, local)
  live-worked [] (Some x) v r l r' l' before items w st rest idle e = absurd e
  live-worked (a ∷ []) None v r l r' l' before items w st rest idle e = absurd e
  live-worked (a ∷ []) (Some x) None r l r' l' before [] w st rest idle e = absurd (cc)
  live-worked (a ∷ []) (Some x) None r l r' l' before (i ∷ items) w st rest idle e = absurd st
  live-worked (a ∷ []) (Some x) (Some y) r l r' l' before items w st rest idle e = record {
    done = e.done ++ items;
    whole = e.whole ∙ ap (λ xs. e.done ++ xs) w ∙ sym (append_assoc e.done items (r' ++ l'));
    chain = more-chain a.unit e.done (step_of items) x y e.chain st;
  }
  live-worked (a ∷ b ∷ more) None v r l r' l' before items w st rest idle e = absurd e
  live-worked (a ∷ b ∷ more) (Some x) v r l r' l' before items w st rest idle e = absurd e

  holds-worked : (k n : ℕ) (a : Account U I) (p q : Piece U I) → PieceWorked counted name stepped advanced env here n p q → Hold k a p → Hold k a q
  holds-worked k n a p q w h = record {
    tenure = w.tenure ∙ h.tenure;
    tagged = w.tagged ∙ h.tagged;
    behind = w.behind ∙ h.behind;
    lived = live-worked a.came p.unit q.unit p.remote p.local q.remote q.local a.before (batch counted n p) w.waited w.unit w.resting (λ away. rw away refl) h.lived;
  }

  worked-keeps : (k n : ℕ) (a : Account U I) (g h : Group U I) → GroupWorked counted name stepped advanced env here n g h → Stand k a g → Stand k a h
  worked-keeps k n a g h w (unbegun s) = stands-same k a g h (record {
    cut = worked-none counted name stepped advanced env here k n g.cut h.cut w.cut s.no_cut ∙ sym s.no_cut;
    current = current-none counted name stepped advanced env here k _ g.current h.current w.current s.no_current ∙ sym s.no_current;
    early = ap (early_at k) w.early;
    arrived = ap (has_arrived k) w.arrived;
    last = let l = w.last in omega arith;
  }) (unbegun s)
  worked-keeps k n a g h w (over s) = stands-same k a g h (record {
    cut = worked-none counted name stepped advanced env here k n g.cut h.cut w.cut s.no_cut ∙ sym s.no_cut;
    current = current-none counted name stepped advanced env here k _ g.current h.current w.current s.no_current ∙ sym s.no_current;
    early = ap (early_at k) w.early;
    arrived = ap (has_arrived k) w.arrived;
    last = let l = w.last in omega arith;
  }) (over s)
  worked-keeps k n a g h w (opened s) =
      let now = current-one counted name stepped advanced env here k _ g.current h.current s.piece w.current s.is in
      opened (record {
        piece = now.0;
        is = now.1;
        holds = holds-worked k _ a s.piece now.0 now.2 s.holds;
        begun = s.begun;
        is_open = s.is_open;
        to = s.to;
        gone = s.gone;
        no_cut = worked-none counted name stepped advanced env here k n g.cut h.cut w.cut s.no_cut;
        no_early = ap (early_at k) w.early ∙ s.no_early;
        last = let l = w.last in let m = s.last in omega arith;
        once = subst (λ b. Once counted name stepped advanced lends env here k a b) (sym (ap (has_arrived k) w.arrived)) s.once;
      })
  worked-keeps k n a g h w (was_cut s) =
      let now = worked-one counted name stepped advanced env here k n g.cut h.cut s.piece w.cut s.is in
      was_cut (record {
        piece = now.1;
        is = now.2;
        holds = holds-worked k now.0 a s.piece.piece now.1.piece now.3.piece s.holds;
        begun = s.begun;
        is_open = s.is_open;
        to = s.to ∙ ap (λ n. n ∷ []) (sym now.3.to);
        gone = s.gone;
        no_current = current-none counted name stepped advanced env here k _ g.current h.current w.current s.no_current;
        no_early = ap (early_at k) w.early ∙ s.no_early;
        last = let l = w.last in let m = s.last in omega arith;
        once = subst (λ b. Once counted name stepped advanced lends env here k a b) (sym (ap (has_arrived k) w.arrived)) s.once;
      })

  -- a unit leaves
  test-suc : (n m k : ℕ) → n ≡ m + 1 → (n == suc k) ≡ (m == k)
  test-suc n m k e = grind (arith, nat_tests)

  nil-is : {X : Type 0} (xs : List X) → is_nil xs ≡ true → xs ≡ []
  nil-is [] e = refl
  nil-is (x ∷ xs) e = absurd (cc)

  done-live : (came : List (Arrival U I)) (u : Option U) (r l b : List I) (v : U) → u ≡ Some v → r ≡ [] → l ≡ [] → Live came u r l b
      → (first : Arrival U I) × (came ≡ first ∷ []) × Chain counted name stepped advanced lends env here first.unit (first.queue ++ b) v
  done-live [] None r l b v e f g h = absurd (cc)
  done-live [] (Some x) r l b v e f g h = absurd h
  done-live (a ∷ []) None r l b v e f g h = absurd h
  done-live (a ∷ []) (Some x) r l b v e f g h =
      let same : x ≡ v = cc in
      let all : a.queue ++ b ≡ h.done = h.whole ∙ (rw (f, g) (append-nil h.done)) in
      (a, refl, subst (λ y. Chain counted name stepped advanced lends env here a.unit (a.queue ++ b) y) same (subst (λ xs. Chain counted name stepped advanced lends env here a.unit xs x) (sym all) h.chain))
  done-live (a ∷ c ∷ more) None r l b v e f g h = absurd h
  done-live (a ∷ c ∷ more) (Some x) r l b v e f g h = absurd h

  abbrev with_gone : Account U I → Parcel U I → Account U I
  with_gone a s = record { begun = a.begun; is_open = a.is_open; tagged = a.tagged; before = a.before; behind = a.behind; to = a.to; came = a.came; gone = a.gone ++ s ∷ [] }

  one-done : (c d : CutPiece U I) → done_of (c ∷ []) ≡ Some d → (c ≡ d) × (is_done c.piece ≡ true)
  one-done c d e =
      elim (is_done c.piece) as (λ q. is_done c.piece ≡ q → (if q then Some c else None) ≡ Some d → (c ≡ d) × (is_done c.piece ≡ true)) [
        | true ↦ λ q r. (cc, q)
        | false ↦ λ q r. absurd (cc)
      ] refl e

  gone-here : (k : ℕ) (p : Parcel U I) (a : Account U I) (g : Group U I) (c : CutPiece U I) → c.to ≡ p.to → c.piece.unit ≡ Some p.unit → c.piece.behind ≡ p.queue
      → p.tenure ≡ suc k → done_of (cut_at k g.cut) ≡ Some c → cut_at k (cut_but_done g.cut) ≡ cut_but_done (cut_at k g.cut)
      → Stand k a g → Stand k (with_gone a p) (shipped g)
  gone-here k p a g c to unit rest next done but (unbegun s) = let none : done_of (cut_at k g.cut) ≡ None = ap done_of s.no_cut in absurd (cc)
  gone-here k p a g c to unit rest next done but (opened s) = let none : done_of (cut_at k g.cut) ≡ None = ap done_of s.no_cut in absurd (cc)
  gone-here k p a g c to unit rest next done but (over s) = let none : done_of (cut_at k g.cut) ≡ None = ap done_of s.no_cut in absurd (cc)
  gone-here k p a g c to unit rest next done but (was_cut s) =
      let one = one-done s.piece c (sym (ap done_of s.is) ∙ done) in
      let both = right (is_some s.piece.piece.unit) _ one.1 in
      let remote = nil-is s.piece.piece.remote (left _ _ both) in
      let local = nil-is s.piece.piece.local (right (is_nil s.piece.piece.remote) _ both) in
      let its = ap (λ (z : CutPiece U I). z.piece.unit) one.0 ∙ unit in
      let lived = done-live a.came s.piece.piece.unit s.piece.piece.remote s.piece.piece.local a.before p.unit its remote local s.holds.lived in
      over (record {
        went = record {
          first = lived.0;
          parcel = p;
          came = lived.1;
          gone = ap (λ xs. xs ++ p ∷ []) s.gone;
          to = s.to ∙ ap (λ n. n ∷ []) (ap (λ (z : CutPiece U I). z.to) one.0 ∙ to);
          next = next;
          queue = sym rest ∙ sym (ap (λ (z : CutPiece U I). z.piece.behind) one.0) ∙ s.holds.behind;
          chain = lived.2;
        };
        begun = s.begun;
        is_open = s.is_open;
        no_cut = but ∙ ap cut_but_done s.is ∙ (rw one.1 refl);
        no_current = s.no_current;
        no_early = s.no_early;
        last = s.last;
        once = s.once;
      })

  gone-keeps : (k : ℕ) (p : Parcel U I) (a : Account U I) (g h : Group U I) → GroupShips g h p → Stand k a g → Stand k (noted {O = O} k a (parcel p)) h
  gone-keeps k p a g h ships s =
      subst (λ z. Stand k (noted {O = O} k a (parcel p)) z) (sym ships.over)
      (elim (p.tenure == suc k) as (λ t. (p.tenure == suc k) ≡ t → Stand k (if t then with_gone a p else a) (shipped g)) [
        | true ↦ λ t.
            let its : (ships.piece.piece.tenure == k) ≡ true = sym (test-suc p.tenure ships.piece.piece.tenure k ships.next) ∙ t in
            let at = done-here k g.cut ships.piece ships.done (test-eq ships.piece.piece.tenure k its) in
            gone-here k p a g ships.piece ships.to_core ships.its_unit ships.rest (test-eq p.tenure (suc k) t) at.0 at.1 s
        | false ↦ λ t.
            let its : (ships.piece.piece.tenure == k) ≡ false = sym (test-suc p.tenure ships.piece.piece.tenure k ships.next) ∙ t in
            stands-same k a g (shipped g) (record { cut = done-other k g.cut ships.piece ships.done its; current = refl; early = refl; arrived = refl; last = omega arith }) s
      ] refl)

  -- a unit was lent
  live-lent : (came : List (Arrival U I)) (u : U) (out : O) (v : U) (r l b : List I) → lends u out v → Live came (Some u) r l b → Live came (Some v) r l b
  live-lent [] u out v r l b e h = absurd h
  live-lent (a ∷ []) u out v r l b e h = record {
    done = h.done;
    whole = h.whole;
    chain = subst (λ xs. Chain counted name stepped advanced lends env here a.unit xs v) (append-nil h.done) (more-chain a.unit h.done (loaned out) u v h.chain e);
  }
  live-lent (a ∷ c ∷ more) u out v r l b e h = absurd h

  holds-lent : (k : ℕ) (a : Account U I) (p : Piece U I) (u : U) (out : O) (v : U) → p.unit ≡ Some u → lends u out v → Hold k a p → Hold k a (with_unit p v)
  holds-lent k a p u out v its e h = record {
    tenure = h.tenure;
    tagged = h.tagged;
    behind = h.behind;
    lived = live-lent a.came u out v p.remote p.local a.before e (subst (λ z. Live a.came z p.remote p.local a.before) its h.lived);
  }

  with-none : (k : ℕ) (cs : List (CutPiece U I)) (v : U) → cut_at k cs ≡ [] → cut_at k (cut_with cs v) ≡ []
  with-none k [] v e = refl
  with-none k (c ∷ cs) v e = let rest = λ (q : cut_at k cs ≡ []). with-none k cs v q in grind arith

  with-one : (k : ℕ) (cs : List (CutPiece U I)) (v : U) (c : CutPiece U I) → cut_at k cs ≡ c ∷ []
      → (cut_at k (cut_with cs v) ≡ c ∷ []) ⊎ ((cut_at k (cut_with cs v) ≡ cut_piece_with c v ∷ []) × (cut_unit cs ≡ c.piece.unit) × (is_some c.piece.unit ≡ true))
  with-one k [] v c e = absurd (cc)
  with-one k (x ∷ cs) v c e = let rest = λ (q : cut_at k cs ≡ c ∷ []). with-one k cs v c q in let none = λ (q : cut_at k cs ≡ []). with-none k cs v q in grind arith

  current-with-at : (k : ℕ) (p : Option (Piece U I)) (v : U) → current_at k (current_with p v) ≡ current_with (current_at k p) v
  current-with-at k None v = refl
  current-with-at k (Some p) v = grind arith

  current-was : (k : ℕ) (p : Option (Piece U I)) (q : Piece U I) → current_at k p ≡ Some q → p ≡ Some q
  current-was k None q e = absurd (cc)
  current-was k (Some p) q e =
      elim (p.tenure == k) as (λ b. (if b then Some p else None) ≡ Some q → Some p ≡ Some q) [ true ↦ λ r. r | false ↦ λ r. absurd (cc) ] e

  none-with : (k : ℕ) (q : Bool) (p : Option (Piece U I)) (v : U) → current_at k p ≡ None → current_at k (if q then p else current_with p v) ≡ None
  none-with k true p v e = e
  none-with k false p v e = current-with-at k p v ∙ ap (λ z. current_with z v) e

  lent-keeps : (k : ℕ) (a : Account U I) (g : Group U I) (u : U) (out : O) (v : U) → unit_of g ≡ Some u → lends u out v → Stand k a g → Stand k a (changed_group g v)
  unfolding changed_group
  lent-keeps k a g u out v its e (unbegun s) = stands-same k a g (changed_group g v) (record {
    cut = with-none k g.cut v s.no_cut ∙ sym s.no_cut;
    current = none-with k (is_some (cut_unit g.cut)) g.current v s.no_current ∙ sym s.no_current;
    early = refl;
    arrived = refl;
    last = omega arith;
  }) (unbegun s)
  lent-keeps k a g u out v its e (over s) = stands-same k a g (changed_group g v) (record {
    cut = with-none k g.cut v s.no_cut ∙ sym s.no_cut;
    current = none-with k (is_some (cut_unit g.cut)) g.current v s.no_current ∙ sym s.no_current;
    early = refl;
    arrived = refl;
    last = omega arith;
  }) (over s)
  lent-keeps k a g u out v its e (was_cut s) =
      elim (with-one k g.cut v s.piece s.is) [
        | inl same ↦ was_cut (record {
          piece = s.piece;
          is = same;
          holds = s.holds;
          begun = s.begun;
          is_open = s.is_open;
          to = s.to;
          gone = s.gone;
          no_current = none-with k (is_some (cut_unit g.cut)) g.current v s.no_current;
          no_early = s.no_early;
          last = s.last;
          once = s.once;
        })
        | inr new ↦
            let first = new.1 in let some = new.2 in
            let here_is : s.piece.piece.unit ≡ Some u = let t : is_some (cut_unit g.cut) ≡ true = ap is_some first ∙ some in
            sym first ∙ sym (open-is (is_some (cut_unit g.cut)) (cut_unit g.cut) (current_unit g.current) t) ∙ its in
            was_cut (record {
              piece = cut_piece_with s.piece v;
              is = new.0;
              holds = holds-lent k a s.piece.piece u out v here_is e s.holds;
              begun = s.begun;
              is_open = s.is_open;
              to = s.to;
              gone = s.gone;
              no_current = none-with k (is_some (cut_unit g.cut)) g.current v s.no_current;
              no_early = s.no_early;
              last = s.last;
              once = s.once;
            })
      ]
  lent-keeps k a g u out v its e (opened s) =
      elim (is_some (cut_unit g.cut)) as (λ q. is_some (cut_unit g.cut) ≡ q → Stand k a (changed_group g v)) [
        | true ↦ λ q. opened (record {
          piece = s.piece;
          is = ap (current_at k) (open-is (is_some (cut_unit g.cut)) g.current (current_with g.current v) q) ∙ s.is;
          holds = s.holds;
          begun = s.begun;
          is_open = s.is_open;
          to = s.to;
          gone = s.gone;
          no_cut = with-none k g.cut v s.no_cut;
          no_early = s.no_early;
          last = s.last;
          once = s.once;
        })
        | false ↦ λ q.
            let is = current-was k g.current s.piece s.is in
            let here_is : s.piece.unit ≡ Some u = sym (ap current_unit is) ∙ sym (closed (is_some (cut_unit g.cut)) (cut_unit g.cut) (current_unit g.current) q) ∙ its in
            opened (record {
              piece = with_unit s.piece v;
              is = ap (current_at k) (closed (is_some (cut_unit g.cut)) g.current (current_with g.current v) q) ∙ current-with-at k g.current v ∙ ap (λ z. current_with z v) s.is;
              holds = holds-lent k a s.piece u out v here_is e s.holds;
              begun = s.begun;
              is_open = s.is_open;
              to = s.to;
              gone = s.gone;
              no_cut = with-none k g.cut v s.no_cut;
              no_early = s.no_early;
              last = s.last;
              once = s.once;
            })
      ] refl

  -- an item for each group, at a group without an open piece
  given-none : (w : I) (g : Group U I) (p : Option (Piece U I)) → g.current ≡ p → (if is_some p then taken g (Work w) else g) ≡ taken g (Work w)
  given-none w g None e = ap (λ (q : Option (Piece U I)). (let h : Group U I = record { cut = g.cut; current = q; early = g.early; arrived = g.arrived; last = g.last } in h)) (e ∙ sym (ap (item_put w) e))
  given-none w g (Some p) e = refl

  given-is : (w : I) (g : Group U I) → given w g ≡ taken g (Work w)
  given-is w g = given-none w g g.current refl

  pub keeps : (k : ℕ) (a : Account U I) (x y : Group U I) (p : Part U I O) → GroupStep counted name stepped advanced lends env here x p y
      → Stand k a x → Stand k (noted k a p) y
  keeps k a x y nothing step s = subst (λ z. Stand k a z) (sym step) s
  keeps k a x y (item it) step s = subst (λ z. Stand k (item_noted k a it) z) (sym step.1) (item-keeps k a x it step.0 s)
  keeps k a x y (common w) step s = subst (λ z. Stand k (item_noted k a (Work w)) z) (sym (step ∙ given-is w x)) (work-keeps k w a x s)
  keeps k a x y (arrival b) step s = subst (λ z. Stand k (noted {O = O} k a (arrival b)) z) (sym step.1) (arrive-keeps k b a x step.0 s)
  keeps k a x y work step s = worked-keeps k step.budget a x y step.worked s
  keeps k a x y (parcel p) step s = gone-keeps k p a x y step s
  keeps k a x y (loan u out v) step s = subst (λ z. Stand k a z) (sym step.2) (lent-keeps k a x u out v step.0 step.1 s)
