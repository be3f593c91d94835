-- What was shipped and what came, as members of the histories.
use Rattle.std.proofs.Common.{◌≡◌, ℕ, suc, Bool, true, false, List, [], ◌∷◌, ◌++◌, map, refl, sym, ap, ◌∙◌, subst, arith, ◌⊎◌, inl, inr}
use Rattle.std.specs.Prelude.{◌==◌, if◌then◌else◌}
use Rattle.std.proofs.lemmas.Bool.Decides.{nat_tests}
use Rattle.ix_desk.specs.Views.{Arrival, CutPiece}
use Rattle.ix_desk.specs.declared.unit.DeskItem.{DeskItem}
use Rattle.ix_desk.specs.declared.unit.DeskItem.TheVariants.{Work}
use Rattle.ix_history.specs.Events.{for_group, for_each, at_end, Parcel, Event, took, came, worked, gone, lent, Part, nothing, item, common, arrival, work, parcel, loan, part_of, arrival_of}
use Rattle.ix_history.specs.Pieces.{Account, noted, item_noted, account, cut_at}
use Rattle.ix_history.specs.Items.{gone_to, came_from}
use Rattle.ix_history.specs.Join.{In}

test-eq : (h g : ℕ) → (h == g) ≡ true → h ≡ g
test-eq h g e = grind (arith, nat_tests)

eq-test : (h g : ℕ) → h ≡ g → (h == g) ≡ true
eq-test h g e = grind (arith, nat_tests)

in-last : {X : Type 0} (x : X) (xs : List X) → In x (xs ++ x ∷ [])
in-last x [] = inl refl
in-last x (y ∷ ys) = inr (in-last x ys)

in-more : {X : Type 0} (x y : X) (xs : List X) → In x xs → In x (xs ++ y ∷ [])
in-more x y [] i = absurd i
in-more x y (z ∷ zs) (inl e) = inl e
in-more x y (z ∷ zs) (inr i) = inr (in-more x y zs i)

in-snoc : {X : Type 0} (x y : X) (xs : List X) → In x (xs ++ y ∷ []) → In x xs ⊎ (x ≡ y)
in-snoc x y [] (inl e) = inr e
in-snoc x y [] (inr i) = absurd i
in-snoc x y (z ∷ zs) (inl e) = inl (inl e)
in-snoc x y (z ∷ zs) (inr i) = elim (in-snoc x y zs i) [ inl j ↦ inl (inr j) | inr e ↦ inr e ]

in-if : {X : Type 0} (q : Bool) (x y : X) (xs : List X) → In x xs → In x (if q then y ∷ xs else xs)
in-if true x y xs i = inr i
in-if false x y xs i = i

in-map : {X Y : Type 0} (f : X → Y) (x : X) (xs : List X) → In x xs → In (f x) (map f xs)
in-map f x [] i = absurd i
in-map f x (y ∷ ys) (inl e) = inl (ap f e)
in-map f x (y ∷ ys) (inr i) = inr (in-map f x ys i)

pub in-cut : {U I : Type 0} (k : ℕ) (c : CutPiece U I) (cs : List (CutPiece U I)) → In c (cut_at k cs) → In c cs
in-cut k c [] i = absurd i
in-cut k c (x ∷ cs) i =
    elim (x.piece.tenure == k) as (λ q. In c (if q then x ∷ cut_at k cs else cut_at k cs) → In c (x ∷ cs)) [
      | true ↦ λ j. elim j [ inl e ↦ inl e | inr m ↦ inr (in-cut k c cs m) ]
      | false ↦ λ j. inr (in-cut k c cs j)
    ] i

-- an item of the ring changes nothing of what came and of what was shipped
module _ {U I : Type 0} (k : ℕ) (a : Account U I) where
  item-gone : (it : DeskItem I) → (item_noted k a it).gone ≡ a.gone
  item-gone it = grind arith

  item-came : (it : DeskItem I) → (item_noted k a it).came ≡ a.came
  item-came it = grind arith

module _ {U I O : Type 0} where
  -- an event that gives no parcel
  gone-of : (g : ℕ) (s : Parcel U I) (e : Event U I O) → ◌≡◌ {A = Part U I O} (parcel s) (part_of g e) → (e ≡ gone s) × (s.group ≡ g)
  gone-of g s (took (for_group h it)) p =
      elim (h == g) as (λ q. ◌≡◌ {A = Part U I O} (parcel s) (if q then item it else nothing) → (◌≡◌ {A = Event U I O} (took (for_group h it)) (gone s)) × (s.group ≡ g)) [ true ↦ λ r. absurd (cc) | false ↦ λ r. absurd (cc) ] p
  gone-of g s (took (for_each x)) p = absurd (cc)
  gone-of g s (took at_end) p = absurd (cc)
  gone-of g s (came c z) p =
      elim (z.group == g) as (λ q. ◌≡◌ {A = Part U I O} (parcel s) (if q then arrival (arrival_of z) else nothing) → (◌≡◌ {A = Event U I O} (came c z) (gone s)) × (s.group ≡ g)) [ true ↦ λ r. absurd (cc) | false ↦ λ r. absurd (cc) ] p
  gone-of g s (worked max) p = absurd (cc)
  gone-of g s (lent h u out v) p =
      elim (h == g) as (λ q. ◌≡◌ {A = Part U I O} (parcel s) (if q then loan u out v else nothing) → (◌≡◌ {A = Event U I O} (lent h u out v) (gone s)) × (s.group ≡ g)) [ true ↦ λ r. absurd (cc) | false ↦ λ r. absurd (cc) ] p
  gone-of g s (gone z) p =
      elim (z.group == g) as (λ q. (z.group == g) ≡ q → ◌≡◌ {A = Part U I O} (parcel s) (if q then parcel z else nothing) → (◌≡◌ {A = Event U I O} (gone z) (gone s)) × (s.group ≡ g)) [
        | true ↦ λ q r. let same : s ≡ z = cc in (ap (λ (w : Parcel U I). (let e : Event U I O = gone w in e)) (sym same), ap (λ (w : Parcel U I). w.group) same ∙ test-eq z.group g q)
        | false ↦ λ q r. absurd (cc)
      ] refl p

  pub gone-in : (g : ℕ) (s : Parcel U I) (es : List (Event U I O)) → In (parcel s) (map (part_of g) es) → In (gone s) es × (s.group ≡ g)
  gone-in g s [] i = absurd i
  gone-in g s (e ∷ es) (inl p) = let of = gone-of g s e p in (inl (sym of.0), of.1)
  gone-in g s (e ∷ es) (inr i) = let rest = gone-in g s es i in (inr rest.0, rest.1)

  -- what stands in the account was shipped
  noted-gone : (k : ℕ) (a : Account U I) (p : Part U I O) (s : Parcel U I) → In s (noted k a p).gone → In s a.gone ⊎ (◌≡◌ {A = Part U I O} (parcel s) p)
  noted-gone k a nothing s i = inl i
  noted-gone k a (item it) s i = inl (subst (λ xs. In s xs) (item-gone k a it) i)
  noted-gone k a (common x) s i = inl (subst (λ xs. In s xs) (item-gone k a (Work x)) i)
  noted-gone k a (arrival x) s i =
      elim (x.tenure == k) as (λ q. In s (if q then record { begun = a.begun; is_open = a.is_open; tagged = a.tagged; before = a.before; behind = a.behind; to = a.to; came = a.came ++ x ∷ []; gone = a.gone } else a).gone → In s a.gone ⊎ (◌≡◌ {A = Part U I O} (parcel s) (arrival x))) [ true ↦ λ j. inl j | false ↦ λ j. inl j ] i
  noted-gone k a work s i = inl i
  noted-gone k a (loan u out v) s i = inl i
  noted-gone k a (parcel z) s i =
      elim (z.tenure == suc k) as (λ q. In s (if q then record { begun = a.begun; is_open = a.is_open; tagged = a.tagged; before = a.before; behind = a.behind; to = a.to; came = a.came; gone = a.gone ++ z ∷ [] } else a).gone → In s a.gone ⊎ (◌≡◌ {A = Part U I O} (parcel s) (parcel z))) [
        | true ↦ λ j. elim (in-snoc s z a.gone j) [ inl m ↦ inl m | inr e ↦ inr (ap (λ (w : Parcel U I). (let q : Part U I O = parcel w in q)) e) ]
        | false ↦ λ j. inl j
      ] i

  pub account-gone : (k : ℕ) (a : Account U I) (ps : List (Part U I O)) (s : Parcel U I) → In s (account k a ps).gone → In s a.gone ⊎ In (parcel s) ps
  account-gone k a [] s i = inl i
  account-gone k a (p ∷ ps) s i =
      elim (account-gone k (noted k a p) ps s i) [
        | inl j ↦ elim (noted-gone k a p s j) [ inl m ↦ inl m | inr e ↦ inr (inl e) ]
        | inr j ↦ inr (inr j)
      ]

  -- what came stands in the account
  noted-came : (k : ℕ) (a : Account U I) (p : Part U I O) (b : Arrival U I) → In b a.came → In b (noted k a p).came
  noted-came k a nothing b i = i
  noted-came k a (item it) b i = subst (λ xs. In b xs) (sym (item-came k a it)) i
  noted-came k a (common x) b i = subst (λ xs. In b xs) (sym (item-came k a (Work x))) i
  noted-came k a (arrival x) b i =
      elim (x.tenure == k) as (λ q. In b (if q then record { begun = a.begun; is_open = a.is_open; tagged = a.tagged; before = a.before; behind = a.behind; to = a.to; came = a.came ++ x ∷ []; gone = a.gone } else a).came) [ true ↦ in-more b x a.came i | false ↦ i ]
  noted-came k a work b i = i
  noted-came k a (loan u out v) b i = i
  noted-came k a (parcel z) b i =
      elim (z.tenure == suc k) as (λ q. In b (if q then record { begun = a.begun; is_open = a.is_open; tagged = a.tagged; before = a.before; behind = a.behind; to = a.to; came = a.came; gone = a.gone ++ z ∷ [] } else a).came) [ true ↦ i | false ↦ i ]

  pub account-keeps : (k : ℕ) (a : Account U I) (ps : List (Part U I O)) (b : Arrival U I) → In b a.came → In b (account k a ps).came
  account-keeps k a [] b i = i
  account-keeps k a (p ∷ ps) b i = account-keeps k (noted k a p) ps b (noted-came k a p b i)

  pub account-came : (k : ℕ) (a : Account U I) (ps : List (Part U I O)) (b : Arrival U I) → b.tenure ≡ k → In (arrival b) ps → In b (account k a ps).came
  account-came k a [] b t i = absurd i
  account-came k a (p ∷ ps) b t (inl e) =
      let here : In b (noted {O = O} k a (arrival b)).came = rw (eq-test b.tenure k t) (in-last b a.came) in
      account-keeps k (noted k a p) ps b (subst (λ q. In b (noted k a q).came) e here)
  account-came k a (p ∷ ps) b t (inr i) = account-came k (noted k a p) ps b t i

  pub shipped-to : (d : ℕ) (s : Parcel U I) (es : List (Event U I O)) → s.to ≡ d → In (gone s) es → In s (gone_to d es)
  shipped-to d s [] t i = absurd i
  shipped-to d s (took x ∷ es) t (inl e) = absurd (cc)
  shipped-to d s (took x ∷ es) t (inr i) = shipped-to d s es t i
  shipped-to d s (came c z ∷ es) t (inl e) = absurd (cc)
  shipped-to d s (came c z ∷ es) t (inr i) = shipped-to d s es t i
  shipped-to d s (worked max ∷ es) t (inl e) = absurd (cc)
  shipped-to d s (lent h u out w ∷ es) t (inl e) = absurd (cc)
  shipped-to d s (lent h u out w ∷ es) t (inr i) = shipped-to d s es t i
  shipped-to d s (worked max ∷ es) t (inr i) = shipped-to d s es t i
  shipped-to d s (gone z ∷ es) t (inl e) =
      let same : s ≡ z = cc in
      let test : (z.to == d) ≡ true = eq-test z.to d (sym (ap (λ (w : Parcel U I). w.to) same) ∙ t) in
      rw test (inl same)
  shipped-to d s (gone z ∷ es) t (inr i) = in-if (z.to == d) s z (gone_to d es) (shipped-to d s es t i)

  pub landed-from : (c : ℕ) (s : Parcel U I) (es : List (Event U I O)) → In s (came_from c es) → In (came c s) es
  landed-from c s [] i = absurd i
  landed-from c s (took x ∷ es) i = inr (landed-from c s es i)
  landed-from c s (came b z ∷ es) i =
      elim (b == c) as (λ q. (b == c) ≡ q → In s (if q then z ∷ came_from c es else came_from c es) → In (came c s) (came b z ∷ es)) [
        | true ↦ λ q j. elim j [ inl e ↦ inl (let same = test-eq b c q in cc) | inr m ↦ inr (landed-from c s es m) ]
        | false ↦ λ q j. inr (landed-from c s es j)
      ] refl i
  landed-from c s (lent h u out w ∷ es) i = inr (landed-from c s es i)
  landed-from c s (worked max ∷ es) i = inr (landed-from c s es i)
  landed-from c s (gone z ∷ es) i = inr (landed-from c s es i)

  pub came-part : (g c : ℕ) (s : Parcel U I) (es : List (Event U I O)) → s.group ≡ g → In (came c s) es → In (arrival (arrival_of s)) (map (part_of g) es)
  came-part g c s es e i =
      let at : part_of g (came c s) ≡ arrival (arrival_of s) = rw (eq-test s.group g e) refl in
      subst (λ p. In p (map (part_of g) es)) at (in-map (part_of g) (came c s) es i)

  -- and the other way round
  came-of : (g : ℕ) (b : Arrival U I) (e : Event U I O) → ◌≡◌ {A = Part U I O} (arrival b) (part_of g e) → (c : ℕ) × (s : Parcel U I) × (e ≡ came c s) × (arrival_of s ≡ b) × (s.group ≡ g)
  came-of g b (took (for_group h it)) p =
      elim (h == g) as (λ q. ◌≡◌ {A = Part U I O} (arrival b) (if q then item it else nothing) → (c : ℕ) × (s : Parcel U I) × (◌≡◌ {A = Event U I O} (took (for_group h it)) (came c s)) × (arrival_of s ≡ b) × (s.group ≡ g)) [ true ↦ λ r. absurd (cc) | false ↦ λ r. absurd (cc) ] p
  came-of g b (took (for_each x)) p = absurd (cc)
  came-of g b (took at_end) p = absurd (cc)
  came-of g b (came c z) p =
      elim (z.group == g) as (λ q. (z.group == g) ≡ q → ◌≡◌ {A = Part U I O} (arrival b) (if q then arrival (arrival_of z) else nothing) → (c' : ℕ) × (s : Parcel U I) × (◌≡◌ {A = Event U I O} (came c z) (came c' s)) × (arrival_of s ≡ b) × (s.group ≡ g)) [
        | true ↦ λ q r. let same : arrival_of z ≡ b = cc in (c, z, refl, same, test-eq z.group g q)
        | false ↦ λ q r. absurd (cc)
      ] refl p
  came-of g b (worked max) p = absurd (cc)
  came-of g b (lent h u out v) p =
      elim (h == g) as (λ q. ◌≡◌ {A = Part U I O} (arrival b) (if q then loan u out v else nothing) → (c : ℕ) × (s : Parcel U I) × (◌≡◌ {A = Event U I O} (lent h u out v) (came c s)) × (arrival_of s ≡ b) × (s.group ≡ g)) [ true ↦ λ r. absurd (cc) | false ↦ λ r. absurd (cc) ] p
  came-of g b (gone z) p =
      elim (z.group == g) as (λ q. ◌≡◌ {A = Part U I O} (arrival b) (if q then parcel z else nothing) → (c : ℕ) × (s : Parcel U I) × (◌≡◌ {A = Event U I O} (gone z) (came c s)) × (arrival_of s ≡ b) × (s.group ≡ g)) [ true ↦ λ r. absurd (cc) | false ↦ λ r. absurd (cc) ] p

  pub came-in : (g : ℕ) (b : Arrival U I) (es : List (Event U I O)) → In (arrival b) (map (part_of g) es) → (c : ℕ) × (s : Parcel U I) × In (came c s) es × (arrival_of s ≡ b) × (s.group ≡ g)
  came-in g b [] i = absurd i
  came-in g b (e ∷ es) (inl p) = let of = came-of g b e p in (of.0, of.1, inl (sym of.2), of.3, of.4)
  came-in g b (e ∷ es) (inr i) = let rest = came-in g b es i in (rest.0, rest.1, inr rest.2, rest.3, rest.4)

  noted-back : (k : ℕ) (a : Account U I) (p : Part U I O) (b : Arrival U I) → In b (noted k a p).came → In b a.came ⊎ ((◌≡◌ {A = Part U I O} (arrival b) p) × (b.tenure ≡ k))
  noted-back k a nothing b i = inl i
  noted-back k a (item it) b i = inl (subst (λ xs. In b xs) (item-came k a it) i)
  noted-back k a (common x) b i = inl (subst (λ xs. In b xs) (item-came k a (Work x)) i)
  noted-back k a (arrival x) b i =
      elim (x.tenure == k) as (λ q. (x.tenure == k) ≡ q → In b (if q then record { begun = a.begun; is_open = a.is_open; tagged = a.tagged; before = a.before; behind = a.behind; to = a.to; came = a.came ++ x ∷ []; gone = a.gone } else a).came → In b a.came ⊎ ((◌≡◌ {A = Part U I O} (arrival b) (arrival x)) × (b.tenure ≡ k))) [
        | true ↦ λ q j. elim (in-snoc b x a.came j) [ inl m ↦ inl m | inr e ↦ inr (ap (λ (w : Arrival U I). (let q : Part U I O = arrival w in q)) e, ap (λ (z : Arrival U I). z.tenure) e ∙ test-eq x.tenure k q) ]
        | false ↦ λ q j. inl j
      ] refl i
  noted-back k a work b i = inl i
  noted-back k a (loan u out v) b i = inl i
  noted-back k a (parcel z) b i =
      elim (z.tenure == suc k) as (λ q. In b (if q then record { begun = a.begun; is_open = a.is_open; tagged = a.tagged; before = a.before; behind = a.behind; to = a.to; came = a.came; gone = a.gone ++ z ∷ [] } else a).came → In b a.came ⊎ ((◌≡◌ {A = Part U I O} (arrival b) (parcel z)) × (b.tenure ≡ k))) [ true ↦ λ j. inl j | false ↦ λ j. inl j ] i

  pub account-back : (k : ℕ) (a : Account U I) (ps : List (Part U I O)) (b : Arrival U I) → In b (account k a ps).came → In b a.came ⊎ (In (arrival b) ps × (b.tenure ≡ k))
  account-back k a [] b i = inl i
  account-back k a (p ∷ ps) b i =
      elim (account-back k (noted k a p) ps b i) [
        | inl j ↦ elim (noted-back k a p b j) [ inl m ↦ inl m | inr e ↦ inr (inl e.0, e.1) ]
        | inr j ↦ inr (inr j.0, j.1)
      ]

  noted-left : (k : ℕ) (a : Account U I) (p : Part U I O) (s : Parcel U I) → In s a.gone → In s (noted k a p).gone
  noted-left k a nothing s i = i
  noted-left k a (item it) s i = subst (λ xs. In s xs) (sym (item-gone k a it)) i
  noted-left k a (common x) s i = subst (λ xs. In s xs) (sym (item-gone k a (Work x))) i
  noted-left k a (arrival x) s i =
      elim (x.tenure == k) as (λ q. In s (if q then record { begun = a.begun; is_open = a.is_open; tagged = a.tagged; before = a.before; behind = a.behind; to = a.to; came = a.came ++ x ∷ []; gone = a.gone } else a).gone) [ true ↦ i | false ↦ i ]
  noted-left k a work s i = i
  noted-left k a (loan u out v) s i = i
  noted-left k a (parcel z) s i =
      elim (z.tenure == suc k) as (λ q. In s (if q then record { begun = a.begun; is_open = a.is_open; tagged = a.tagged; before = a.before; behind = a.behind; to = a.to; came = a.came; gone = a.gone ++ z ∷ [] } else a).gone) [ true ↦ in-more s z a.gone i | false ↦ i ]

  left-keeps : (k : ℕ) (a : Account U I) (ps : List (Part U I O)) (s : Parcel U I) → In s a.gone → In s (account k a ps).gone
  left-keeps k a [] s i = i
  left-keeps k a (p ∷ ps) s i = left-keeps k (noted k a p) ps s (noted-left k a p s i)

  pub account-left : (k : ℕ) (a : Account U I) (ps : List (Part U I O)) (s : Parcel U I) → s.tenure ≡ suc k → In (parcel s) ps → In s (account k a ps).gone
  account-left k a [] s t i = absurd i
  account-left k a (p ∷ ps) s t (inl e) =
      let here : In s (noted {O = O} k a (parcel s)).gone = rw (eq-test s.tenure (suc k) t) (in-last s a.gone) in
      left-keeps k (noted k a p) ps s (subst (λ q. In s (noted k a q).gone) e here)
  account-left k a (p ∷ ps) s t (inr i) = account-left k (noted k a p) ps s t i

  pub landed-to : (c : ℕ) (s : Parcel U I) (es : List (Event U I O)) → In (came c s) es → In s (came_from c es)
  landed-to c s [] i = absurd i
  landed-to c s (took x ∷ es) (inl e) = absurd (cc)
  landed-to c s (took x ∷ es) (inr i) = landed-to c s es i
  landed-to c s (came b z ∷ es) (inl e) =
      let core : c ≡ b = cc in
      let same : s ≡ z = cc in
      let test : (b == c) ≡ true = eq-test b c (sym core) in
      rw test (inl same)
  landed-to c s (came b z ∷ es) (inr i) = in-if (b == c) s z (came_from c es) (landed-to c s es i)
  landed-to c s (worked max ∷ es) (inl e) = absurd (cc)
  landed-to c s (lent h u out w ∷ es) (inl e) = absurd (cc)
  landed-to c s (lent h u out w ∷ es) (inr i) = landed-to c s es i
  landed-to c s (worked max ∷ es) (inr i) = landed-to c s es i
  landed-to c s (gone z ∷ es) (inl e) = absurd (cc)
  landed-to c s (gone z ∷ es) (inr i) = landed-to c s es i

  pub shipped-from : (d : ℕ) (s : Parcel U I) (es : List (Event U I O)) → In s (gone_to d es) → In (gone s) es
  shipped-from d s [] i = absurd i
  shipped-from d s (took x ∷ es) i = inr (shipped-from d s es i)
  shipped-from d s (came c z ∷ es) i = inr (shipped-from d s es i)
  shipped-from d s (lent h u out w ∷ es) i = inr (shipped-from d s es i)
  shipped-from d s (worked max ∷ es) i = inr (shipped-from d s es i)
  shipped-from d s (gone z ∷ es) i =
      elim (z.to == d) as (λ q. In s (if q then z ∷ gone_to d es else gone_to d es) → In (gone s) (gone z ∷ es)) [
        | true ↦ λ j. elim j [ inl e ↦ inl (ap gone e) | inr m ↦ inr (shipped-from d s es m) ]
        | false ↦ λ j. inr (shipped-from d s es j)
      ] i

  pub gone-part : (g : ℕ) (s : Parcel U I) (es : List (Event U I O)) → s.group ≡ g → In (gone s) es → In (parcel s) (map (part_of g) es)
  gone-part g s es e i =
      let at : part_of g (gone s) ≡ parcel s = rw (eq-test s.group g e) refl in
      subst (λ p. In p (map (part_of g) es)) at (in-map (part_of g) (gone s) es i)
