-- The join of all cores, tenure after tenure.
use Rattle.std.proofs.Common.{◌≡◌, ℕ, zero, suc, ◌+◌, ◌<◌, ◌≤◌, Bool, true, false, List, [], ◌∷◌, ◌++◌, get_or, map, refl, sym, ap, ◌∙◌, subst, arith, append_assoc, append-nil, ◌⊎◌, inl, inr}
use Rattle.std.specs.Prelude.{◌==◌, ◌&&◌, ◌||◌, not, if◌then◌else◌, nat_lt, Option, Some, None, is_some}
use Rattle.std.specs.List.{list_any}
use Rattle.std.proofs.lemmas.Bool.Decides.{nat_tests}
use Rattle.ix_desk.specs.Views.{Piece, CutPiece, Arrival, Group, View}
use Rattle.ix_desk.specs.Pieces.{joined, ready, is_done, is_nil, piece_has_work}
use Rattle.ix_desk.specs.Groups.{empty, at_home, done_of, cut_has_work, current_has_work, group_has_work}
use Rattle.ix_desk.specs.Desks.{group_at}
use Rattle.ix_order.specs.Wire.{Entry, Item, Table, put_on, moves}
use Rattle.ix_order.specs.Pieces.{opening, core_in, by_tenure}
use Rattle.ix_order.specs.Stages as stages
use Rattle.ix_order.specs.Stages.{ring_part, part, StepsJoined}
use Rattle.ix_order.specs.Steppers.{step_of, SteppersJoined}
use Rattle.ix_order.specs.Ends.{opened as open_after, sent, PiecesEnd}
use Rattle.ix_history.specs.Runs.{Runs}
use Rattle.ix_history.specs.Events.{RingItem, Parcel, Event, part_of, arrival_of, parcel}
use Rattle.ix_history.specs.Pieces.{Account, account, no_news, home_news, cut_at, current_at, early_at, Deed, batch, loaned, items_in, Did, Chain, Done, Lived, WasCut, Went, Stands, unbegun, opened, was_cut, over}
use Rattle.ix_history.specs.Items.{taken_in, opens, told}
use Rattle.ix_history.specs.Join.{In, IsIdle, Played, steps_in, tenure_part, tenure_queue, tenure_items, all_items, all_names, DidThere, Joined, NowhereElse}
use Rattle.ix_history.proofs.Law.{piece-law}
use Rattle.ix_history.proofs.Heard.{heard_of, account-heard, Read, reads, names-part, map-snoc}
use Rattle.ix_history.proofs.Joining.{runs-join}
use Rattle.ix_history.proofs.Members.{in-cut, gone-in, account-gone, account-keeps, account-came, shipped-to, landed-from, came-part, came-in, account-back, account-left, landed-to, shipped-from, gone-part}
use Rattle.ix_history.proofs.Places.{was-welcome}

self-test : (n : ℕ) → (n == n) ≡ true
self-test n = grind (arith, nat_tests)

append-empty : {X : Type 0} (xs ys : List X) → xs ++ ys ≡ [] → (xs ≡ []) × (ys ≡ [])
append-empty [] ys e = (refl, e)
append-empty (x ∷ xs) ys e = absurd (cc)

by_tenure-snoc : {X : Type 0} (f : ℕ → List X) (j n : ℕ) → by_tenure f j n ++ f (j + n) ≡ by_tenure f j (suc n)
by_tenure-snoc f j zero = let at : j + 0 ≡ j = omega arith in rw at (sym (append-nil (f j)))
by_tenure-snoc f j (suc n) =
    let at : j + suc n ≡ suc j + n = omega arith in
    ap (λ m. (f j ++ by_tenure f (suc j) n) ++ f m) at ∙ append_assoc (f j) _ _ ∙ ap (λ xs. f j ++ xs) (by_tenure-snoc f (suc j) n)

core_in-now : (g : ℕ) (t : Table) (es : List Entry) → core_in g (t g).tenure t es ≡ (t g).core
core_in-now g t [] = refl
core_in-now g t (e ∷ es) = grind (arith, nat_tests)

map-pairs : {I : Type 0} (name : I → ℕ) (c : ℕ) (xs : List I) → map (λ j. (let p : ℕ × ℕ = (name j, c) in p)) xs ≡ map (λ w. (let p : ℕ × ℕ = (w, c) in p)) (map name xs)
map-pairs name c [] = refl
map-pairs name c (x ∷ xs) = ap (λ ps. (let p : ℕ × ℕ = (name x, c) in p) ∷ ps) (map-pairs name c xs)

done-none : {U I : Type 0} (k : ℕ) (cs : List (CutPiece U I)) → done_of cs ≡ None → done_of (cut_at k cs) ≡ None
done-none k [] e = refl
done-none k (c ∷ cs) e =
    elim (is_done c.piece) as (λ q. is_done c.piece ≡ q → (if q then Some c else done_of cs) ≡ None → done_of (cut_at k (c ∷ cs)) ≡ None) [
      | true ↦ λ q r. absurd (cc)
      | false ↦ λ q r. let rest = done-none k cs r in grind arith
    ] refl e

current-was : {U I : Type 0} (k : ℕ) (p : Option (Piece U I)) (q : Piece U I) → current_at k p ≡ Some q → p ≡ Some q
current-was k None q e = absurd (cc)
current-was k (Some p) q e =
    elim (p.tenure == k) as (λ b. (if b then Some p else None) ≡ Some q → Some p ≡ Some q) [ true ↦ λ r. r | false ↦ λ r. absurd (cc) ] e

first-map : (c : ℕ) (xs : List ℕ) → map (λ (z : ℕ × ℕ). z.0) (map (λ w. (let p : ℕ × ℕ = (w, c) in p)) xs) ≡ xs
first-map c [] = refl
first-map c (x ∷ xs) = ap (λ ys. x ∷ ys) (first-map c xs)

firsts : (core : ℕ → ℕ) (f : ℕ → List ℕ) (j n : ℕ) → map (λ (z : ℕ × ℕ). z.0) (by_tenure (λ k. map (λ w. (let p : ℕ × ℕ = (w, core k) in p)) (f k)) j n) ≡ by_tenure f j n
firsts core f j zero = refl
firsts core f j (suc n) =
    map-snoc (λ (z : ℕ × ℕ). z.0) (map (λ w. (let p : ℕ × ℕ = (w, core j) in p)) (f j)) _
    ∙ ap (λ xs. xs ++ map (λ (z : ℕ × ℕ). z.0) (by_tenure (λ k. map (λ w. (let p : ℕ × ℕ = (w, core k) in p)) (f k)) (suc j) n)) (first-map (core j) (f j))
    ∙ ap (λ xs. f j ++ xs) (firsts core f (suc j) n)

-- a group of an idle core
pub record AtRest {U I : Type 0} (g : Group U I) : Type 0 where
  pub done : done_of g.cut ≡ None
  pub cut : (c : CutPiece U I) → In c g.cut → is_some c.piece.unit ≡ true → ready c.piece ≡ []
  pub current : (p : Piece U I) → g.current ≡ Some p → is_some p.unit ≡ true → ready p ≡ []

or-left : (a b : Bool) → (a || b) ≡ false → a ≡ false
or-left true b e = absurd (cc)
or-left false b e = refl

or-right : (a b : Bool) → (a || b) ≡ false → b ≡ false
or-right true b e = absurd (cc)
or-right false b e = e

no-work : {U I : Type 0} (p : Piece U I) → piece_has_work p ≡ false → is_some p.unit ≡ true → ready p ≡ []
no-work p none some = nil-of (ready p) (rw some at none)
  where
    nil-of : {X : Type 0} (xs : List X) → (true && not (is_nil xs)) ≡ false → xs ≡ []
    nil-of [] e = refl
    nil-of (x ∷ xs) e = absurd (cc)

any-none : {X : Type 0} (f : X → Bool) (xs : List X) (x : X) → list_any f xs ≡ false → In x xs → f x ≡ false
any-none f [] x e i = absurd i
any-none f (y ∷ ys) x e (inl same) = ap f same ∙ or-left (f y) (list_any f ys) e
any-none f (y ∷ ys) x e (inr i) = any-none f ys x (or-right (f y) (list_any f ys) e) i

any-at : {X : Type 0} (f : X → Bool) (xs : List X) (i : ℕ) (d : X) → list_any f xs ≡ false → f d ≡ false → f (get_or xs i d) ≡ false
any-at f [] i d e n = n
any-at f (x ∷ xs) zero d e n = or-left (f x) (list_any f xs) e
any-at f (x ∷ xs) (suc i) d e n = any-at f xs i d (or-right (f x) (list_any f xs) e) n

-- each group of an idle core is at rest
idle-rests : {U I : Type 0} (v : View U I) (g : ℕ) → IsIdle v → AtRest (group_at v g)
idle-rests v g idle =
    let none : group_has_work (group_at v g) ≡ false = any-at group_has_work v.groups g empty idle.work refl in
    let cut = or-left (list_any cut_has_work (group_at v g).cut) (current_has_work (group_at v g).current) none in
    let current = or-right (list_any cut_has_work (group_at v g).cut) (current_has_work (group_at v g).current) none in
    record {
      done = idle.done g;
      cut = λ c i some. no-work c.piece (any-none cut_has_work (group_at v g).cut c cut i) some;
      current = λ p is some. no-work p (sym (ap current_has_work is) ∙ current) some;
    }

cut-nil : {U I : Type 0} (cs : List (CutPiece U I)) → ((k : ℕ) → cut_at k cs ≡ []) → cs ≡ []
cut-nil [] none = refl
cut-nil (c ∷ cs) none = let here = none c.piece.tenure in let some : cut_at c.piece.tenure (c ∷ cs) ≡ c ∷ cut_at c.piece.tenure cs = rw (self-test c.piece.tenure) refl in absurd (cc)

early-nil : {U I : Type 0} (bs : List (Arrival U I)) → ((k : ℕ) → early_at k bs ≡ []) → bs ≡ []
early-nil [] none = refl
early-nil (b ∷ bs) none = let here = none b.tenure in let some : early_at b.tenure (b ∷ bs) ≡ b ∷ early_at b.tenure bs = rw (self-test b.tenure) refl in absurd (cc)

module _ {U I O E : Type 0} (counted : I → Bool) (name : I → ℕ) (stepped : U → List (ℕ × ℕ)) (advanced : U → E → ℕ → List I → U → Type 0) (lends : U → O → U → Type 0) (env : E) where
  abbrev Stand : ℕ → ℕ → Account U I → Group U I → Type 0
  Stand here k a g = Stands counted name stepped advanced lends env here k a g

  stands-empty : (here k : ℕ) → Stand here k no_news empty
  stands-empty here k = unbegun (record {
    begun = refl;
    is_open = refl;
    tagged = refl;
    before = refl;
    behind = refl;
    to = refl;
    gone = refl;
    no_cut = refl;
    no_current = refl;
    early = refl;
    few = inl refl;
    once = λ e. refl;
  })

  stands-home : (here : ℕ) (u : U) → Stand here 0 (home_news u) (at_home u)
  stands-home here u = opened (record {
    piece = record { tenure = 0; tagged = false; unit = Some u; remote = []; local = []; behind = [] };
    is = refl;
    holds = record { tenure = refl; tagged = refl; behind = refl; lived = record { done = []; whole = refl; chain = record { deeds = []; whole = refl; runs = refl } } };
    begun = refl;
    is_open = refl;
    to = refl;
    gone = refl;
    no_cut = refl;
    no_early = refl;
    last = omega arith;
    once = λ e. absurd (cc);
  })

  stands-later : (here k : ℕ) (u : U) → (k == 0) ≡ false → Stand here k no_news (at_home u)
  stands-later here k u e = unbegun (record {
    begun = refl;
    is_open = refl;
    tagged = refl;
    before = refl;
    behind = refl;
    to = refl;
    gone = refl;
    no_cut = refl;
    no_current = (let other : (0 == k) ≡ false = grind (arith, nat_tests) in rw other refl);
    early = refl;
    few = inl refl;
    once = λ z. refl;
  })

  -- what is known of a tenure at the opening
  abbrev pub news_if : Bool → Bool → U → Account U I
  news_if p q u = if p then (if q then home_news u else no_news) else no_news

  pub stands-start : (here k : ℕ) (u : U) (p q : Bool) → (k == 0) ≡ q → Stand here k (news_if p q u) (if p then at_home u else empty)
  stands-start here k u true true e = let first : k ≡ 0 = grind (arith, nat_tests) in subst (λ n. Stand here n (home_news u) (at_home u)) (sym first) (stands-home here u)
  stands-start here k u true false e = stands-later here k u e
  stands-start here k u false q e = stands-empty here k

  pub record Blank (a : Account U I) : Type 0 where
    pub before : a.before ≡ []
    pub behind : a.behind ≡ []
    pub to : a.to ≡ []
    pub gone : a.gone ≡ []
    pub tagged : a.tagged ≡ false

  pub blank : (p q : Bool) (u : U) → Blank (news_if p q u)
  blank true true u = record { before = refl; behind = refl; to = refl; gone = refl; tagged = refl }
  blank true false u = record { before = refl; behind = refl; to = refl; gone = refl; tagged = refl }
  blank false q u = record { before = refl; behind = refl; to = refl; gone = refl; tagged = refl }

  pub news-open : (p q : Bool) (u : U) (k tenure : ℕ) → tenure ≡ 0 → (k == 0) ≡ q → (news_if p q u).is_open ≡ opens k (if p then Some tenure else None)
  news-open true true u k tenure z e = let test : (tenure == k) ≡ true = grind (arith, nat_tests) in sym test
  news-open true false u k tenure z e = let test : (tenure == k) ≡ false = grind (arith, nat_tests) in sym test
  news-open false q u k tenure z e = refl

  lived-few : (here : ℕ) (came : List (Arrival U I)) (u : Option U) (r l bs : List I) (b : Arrival U I) → Lived counted name stepped advanced lends env here came u r l bs → In b came → came ≡ b ∷ []
  lived-few here [] u r l bs b v i = absurd i
  lived-few here (a ∷ []) u r l bs b v (inl e) = ap (λ z. z ∷ []) (sym e)
  lived-few here (a ∷ []) u r l bs b v (inr i) = absurd i
  lived-few here (a ∷ c ∷ more) None r l bs b v i = absurd v
  lived-few here (a ∷ c ∷ more) (Some x) r l bs b v i = absurd v

  one-of : (b c : Arrival U I) (came : List (Arrival U I)) → came ≡ c ∷ [] → In b came → came ≡ b ∷ []
  one-of b c came e i = elim (subst (λ xs. In b xs) e i) [ inl m ↦ e ∙ ap (λ z. z ∷ []) (sym m) | inr m ↦ absurd m ]

  few : (here k : ℕ) (a : Account U I) (g : Group U I) (b : Arrival U I) → Stand here k a g → In b a.came → a.came ≡ b ∷ []
  few here k a g b (unbegun s) i = elim s.few [ inl e ↦ absurd (subst (λ xs. In b xs) e i) | inr f ↦ one-of b f.0 a.came f.1 i ]
  few here k a g b (opened s) i = lived-few here a.came s.piece.unit s.piece.remote s.piece.local a.before b s.holds.lived i
  few here k a g b (was_cut s) i = lived-few here a.came s.piece.piece.unit s.piece.piece.remote s.piece.piece.local a.before b s.holds.lived i
  few here k a g b (over s) i = one-of b s.went.first a.came s.went.came i

  lived-some : (here : ℕ) (first : Arrival U I) (u : Option U) (r l bs : List I) → Lived counted name stepped advanced lends env here (first ∷ []) u r l bs
      → (v : U) × (u ≡ Some v) × Done counted name stepped advanced lends env here first.queue bs (r ++ l) first.unit v
  lived-some here first None r l bs v = absurd v
  lived-some here first (Some x) r l bs v = (x, refl, v)

  is-done : (p : Piece U I) → is_some p.unit ≡ true → ready p ≡ [] → is_done p ≡ true
  is-done p some none = let parts = append-empty p.remote p.local none in rw (some, parts.0, parts.1) refl

  -- an idle core holds no piece that was cut, and whose unit came
  not-cut : (here k : ℕ) (a : Account U I) (g : Group U I) (first : Arrival U I) → WasCut counted name stepped advanced lends env here k a g → a.came ≡ first ∷ [] → AtRest g → ⊥
  not-cut here k a g first s came rest =
      let p = s.piece.piece in
      let lived = lived-some here first p.unit p.remote p.local a.before (subst (λ c. Lived counted name stepped advanced lends env here c p.unit p.remote p.local a.before) came s.holds.lived) in
      let some : is_some p.unit ≡ true = ap is_some lived.1 in
      let nothing = rest.cut s.piece (in-cut k s.piece g.cut (subst (λ cs. In s.piece cs) (sym s.is) (inl refl))) some in
      let done = is-done p some nothing in
      let gives : done_of (s.piece ∷ []) ≡ Some s.piece = rw done refl in
      let none : done_of (s.piece ∷ []) ≡ None = sym (ap done_of s.is) ∙ done-none k g.cut rest.done in
      absurd (cc)

  -- a piece that was cut, and whose unit came, has left an idle core
  has-left : (here k d : ℕ) (a : Account U I) (g : Group U I) (first : Arrival U I) → Stand here k a g → a.to ≡ d ∷ [] → a.came ≡ first ∷ [] → AtRest g
      → Went counted name stepped advanced lends env here k a
  has-left here k d a g first (unbegun s) to came rest = let none = s.to in absurd (cc)
  has-left here k d a g first (opened s) to came rest = let none = s.to in absurd (cc)
  has-left here k d a g first (over s) to came rest = s.went
  has-left here k d a g first (was_cut s) to came rest = absurd (not-cut here k a g first s came rest)

  -- what a unit stepped is what its deeds stepped, each on its core
  runs-steps : ((x : U) (out : O) (y : U) → lends x out y → stepped y ≡ stepped x) → (x : U) (ds : List (ℕ × Deed I O)) (y : U)
      → Runs (DidThere counted name stepped advanced lends env) x ds y → stepped y ≡ stepped x ++ all_names name ds
  runs-steps keeps x [] y r = ap stepped r ∙ sym (append-nil (stepped x))
  runs-steps keeps x ((c, batch []) ∷ ds) y r =
      let same : r.0 ≡ x = let e = r.1 in cc in
      runs-steps keeps r.0 ds y r.2 ∙ ap (λ z. stepped z ++ all_names name ds) same
  runs-steps keeps x ((c, batch (i ∷ items)) ∷ ds) y r =
      runs-steps keeps r.0 ds y r.2 ∙ ap (λ xs. xs ++ all_names name ds) r.1.0 ∙ append_assoc (stepped x) _ _
  runs-steps keeps x ((c, loaned out) ∷ ds) y r = runs-steps keeps r.0 ds y r.2 ∙ ap (λ xs. xs ++ all_names name ds) (keeps x out r.0 r.1)

  abbrev there : ℕ → List (Deed I O) → List (ℕ × Deed I O)
  there c ds = map (λ d. (let p : ℕ × Deed I O = (c, d) in p)) ds

  runs-there : (c : ℕ) (x : U) (ds : List (Deed I O)) (y : U) → Runs (Did counted name stepped advanced lends env c) x ds y
      → Runs (DidThere counted name stepped advanced lends env) x (there c ds) y
  runs-there c x [] y r = r
  runs-there c x (d ∷ ds) y r = (r.0, r.1, runs-there c r.0 ds y r.2)

  there-items : (c : ℕ) (ds : List (Deed I O)) → all_items (there c ds) ≡ joined items_in ds
  there-items c [] = refl
  there-items c (d ∷ ds) = ap (λ xs. items_in d ++ xs) (there-items c ds)

  there-names : (c : ℕ) (ds : List (Deed I O)) → all_names name (there c ds) ≡ map (λ w. (let p : ℕ × ℕ = (w, c) in p)) (map name (joined items_in ds))
  there-names c [] = refl
  there-names c (d ∷ ds) =
      ap (λ ps. map (λ x. (let p : ℕ × ℕ = (name x, c) in p)) (items_in d) ++ ps) (there-names c ds)
      ∙ ap (λ ps. ps ++ map (λ w. (let p : ℕ × ℕ = (w, c) in p)) (map name (joined items_in ds))) (map-pairs name c (items_in d))
      ∙ sym (map-snoc (λ w. (let p : ℕ × ℕ = (w, c) in p)) (map name (items_in d)) (map name (joined items_in ds)))
      ∙ ap (map (λ w. (let p : ℕ × ℕ = (w, c) in p))) (sym (map-snoc name (items_in d) (joined items_in ds)))

  joined-append : {X Y : Type 0} (f : X → List Y) (xs ys : List X) → joined f (xs ++ ys) ≡ joined f xs ++ joined f ys
  joined-append f [] ys = refl
  joined-append f (x ∷ xs) ys = ap (λ zs. f x ++ zs) (joined-append f xs ys) ∙ sym (append_assoc (f x) _ _)

  module _ (ends : PiecesEnd) (wholes : StepsJoined) (whos : SteppersJoined) (keeps : (x : U) (out : O) (y : U) → lends x out y → stepped y ≡ stepped x)
      (n g : ℕ) (t : Table) (es : List Entry) (units : ℕ → U) (x y : ℕ → View U I) (history : ℕ → List (Event U I O))
      (pl : Played counted name stepped advanced lends env n t es units x y history) (group : g < 512) where
    abbrev unit : U
    unit = units g

    abbrev took : ℕ → List (RingItem I)
    took c = taken_in (history c)

    at-core : (t g).core < n
    at-core = pl.core g group

    at-first : (t g).tenure ≡ 0
    at-first = pl.tenure g group

    rest-at : (c : ℕ) → c < n → AtRest (group_at (y c) g)
    rest-at c lt = idle-rests (y c) g (pl.rest c lt)

    abbrev core : ℕ → ℕ
    core k = core_in g k t es

    below : (k : ℕ) → core k < n
    below k = ends.below n g k t es at-core pl.names

    abbrev news : ℕ → ℕ → Account U I
    news c k = news_if (c == (t g).core) (k == 0) unit

    abbrev acc : ℕ → ℕ → Account U I
    acc c k = account k (news c k) (map (part_of g) (history c))

    stands : (c k : ℕ) → c < n → Stand c k (acc c k) (group_at (y c) g)
    stands c k lt =
        let start = subst (λ z. Stand c k (news c k) z) (sym (pl.opens c g lt group)) (stands-start c k unit (c == (t g).core) (k == 0) refl) in
        piece-law counted name stepped advanced lends env c g k (x c) (y c) (history c) (news c k) (pl.here c lt) (pl.size c lt) group (pl.runs c lt) start

    -- the account of a tenure is what was taken of it
    read : (c k : ℕ) → Read name g k (heard_of (news c k)) (heard_of (acc c k)) (opening g c t) false (took c)
    read c k =
        let b = blank (c == (t g).core) (k == 0) unit in
        let is = account-heard g k (news c k) (history c) in
        subst (λ h. Read name g k (heard_of (news c k)) h (opening g c t) false (took c)) (sym is)
        (reads name g k (heard_of (news c k)) (opening g c t) false (took c) (news-open (c == (t g).core) (k == 0) unit k (t g).tenure at-first refl) (λ o. b.tagged))

    before-items : (k : ℕ) → (acc (core k) k).before ≡ tenure_part name g t es took false k
    before-items k =
        let b = blank (core k == (t g).core) (k == 0) unit in
        (read (core k) k).before ∙ ap (λ xs. xs ++ tenure_part name g t es took false k) b.before

    behind-items : (k : ℕ) → (acc (core k) k).behind ≡ tenure_part name g t es took true k
    behind-items k =
        let b = blank (core k == (t g).core) (k == 0) unit in
        (read (core k) k).behind ∙ ap (λ xs. xs ++ tenure_part name g t es took true k) b.behind

    -- by name it is what the wire list puts there
    part-names : (b : Bool) (k : ℕ) → map name (tenure_part name g t es took b k) ≡ ring_part n g k b t es
    part-names b k =
        names-part name g k b (opening g (core k) t) false (took (core k))
        ∙ ap (part g k b (opening g (core k) t) false) (pl.items (core k) (below k))
        ∙ ends.parts n g k b t es at-core pl.names pl.rings

    queue-names : (k : ℕ) → map name (tenure_queue name g t es took k) ≡ stages.queue n g k t es
    queue-names zero = refl
    queue-names (suc k) = part-names true k

    item-names : (k : ℕ) → map name (tenure_items name g t es took k) ≡ stages.stepped n g k t es
    item-names k =
        map-snoc name (tenure_queue name g t es took k) (tenure_part name g t es took false k)
        ∙ ap (λ ws. ws ++ map name (tenure_part name g t es took false k)) (queue-names k)
        ∙ ap (λ ws. stages.queue n g k t es ++ ws) (part-names false k)

    sent-is : (c k : ℕ) → c < n → (acc c k).to ≡ sent g k (opening g c t) (put_on c t 0 es)
    sent-is c k lt =
        let b = blank (c == (t g).core) (k == 0) unit in
        (read c k).to ∙ ap (λ xs. xs ++ sent g k (opening g c t) (map (told name) (took c))) b.to ∙ ap (sent g k (opening g c t)) (pl.items c lt)

    to-is : (k : ℕ) → k < moves g es → (acc (core k) k).to ≡ core (suc k) ∷ []
    to-is k lt = sent-is (core k) k (below k) ∙ ends.sent_on g k t es pl.rings (omega (arith, at-first)) (omega (arith, at-first))

    last-is : (t g).tenure + moves g es ≡ moves g es
    last-is = omega (arith, at-first)

    ends-open : (c : ℕ) → open_after g (opening g c t) (put_on c t 0 es) ≡ (if c == core (moves g es) then Some (moves g es) else None)
    ends-open c = subst (λ m. open_after g (opening g c t) (put_on c t 0 es) ≡ (if c == core_in g m t es then Some m else None)) last-is (ends.last_open g c t es)

    opens-is : (c k : ℕ) → c < n → (acc c k).is_open ≡ opens k (if c == core (moves g es) then Some (moves g es) else None)
    opens-is c k lt = (read c k).is_open ∙ ap (λ (xs : List Item). opens k (open_after g (opening g c t) xs)) (pl.items c lt) ∙ ap (opens k) (ends-open c)

    open-is : (acc (core (moves g es)) (moves g es)).is_open ≡ true
    open-is = let k = moves g es in opens-is (core k) k (below k) ∙ (rw (self-test (core k)) (self-test k))

    -- the unit of tenure k came to its core, with all that was done to it and with its remote queue
    record Here (k : ℕ) : Type 0 where
      first : Arrival U I
      came : (acc (core k) k).came ≡ first ∷ []
      deeds : List (ℕ × Deed I O)
      runs : Runs (DidThere counted name stepped advanced lends env) unit deeds first.unit
      items : all_items deeds ≡ by_tenure (tenure_items name g t es took) 0 k
      names : all_names name deeds ≡ by_tenure (steps_in n g t es) 0 k
      queue : first.queue ≡ tenure_queue name g t es took k

    -- what was done to a unit up to the end of tenure k
    record Lasts (k : ℕ) (u : U) : Type 0 where
      deeds : List (ℕ × Deed I O)
      runs : Runs (DidThere counted name stepped advanced lends env) unit deeds u
      items : all_items deeds ≡ by_tenure (tenure_items name g t es took) 0 (suc k)
      names : all_names name deeds ≡ by_tenure (steps_in n g t es) 0 (suc k)

    -- tenure k steps what it has to
    tenure-steps : (k : ℕ) (h : Here k) (u : U) (items : List I) → items ≡ h.first.queue ++ (acc (core k) k).before
        → Chain counted name stepped advanced lends env (core k) h.first.unit items u → Lasts k u
    tenure-steps k h u items whole chain =
        let its : items ≡ tenure_items name g t es took k = whole ∙ ap (λ xs. xs ++ (acc (core k) k).before) h.queue ∙ ap (λ xs. tenure_queue name g t es took k ++ xs) (before-items k) in
        let named : map (λ w. (let p : ℕ × ℕ = (w, core k) in p)) (map name items) ≡ steps_in n g t es k = ap (λ xs. map (λ w. (let p : ℕ × ℕ = (w, core k) in p)) (map name xs)) its ∙ ap (map (λ w. (let p : ℕ × ℕ = (w, core k) in p))) (item-names k) in
        let zero-more : 0 + k ≡ k = omega arith in
        record {
          deeds = h.deeds ++ there (core k) chain.deeds;
          runs = runs-join (DidThere counted name stepped advanced lends env) unit h.first.unit u h.deeds (there (core k) chain.deeds) h.runs (runs-there (core k) h.first.unit chain.deeds u chain.runs);
          items = joined-append (λ (d : ℕ × Deed I O). items_in d.1) h.deeds (there (core k) chain.deeds)
              ∙ ap (λ xs. xs ++ all_items (there (core k) chain.deeds)) h.items
              ∙ ap (λ xs. by_tenure (tenure_items name g t es took) 0 k ++ xs) (there-items (core k) chain.deeds ∙ chain.whole ∙ its)
              ∙ ap (λ m. by_tenure (tenure_items name g t es took) 0 k ++ tenure_items name g t es took m) (sym zero-more)
              ∙ by_tenure-snoc (tenure_items name g t es took) 0 k;
          names = joined-append (λ (d : ℕ × Deed I O). map (λ z. (let p : ℕ × ℕ = (name z, d.0) in p)) (items_in d.1)) h.deeds (there (core k) chain.deeds)
              ∙ ap (λ xs. xs ++ all_names name (there (core k) chain.deeds)) h.names
              ∙ ap (λ xs. by_tenure (steps_in n g t es) 0 k ++ xs) (there-names (core k) chain.deeds ∙ ap (λ xs. map (λ w. (let p : ℕ × ℕ = (w, core k) in p)) (map name xs)) chain.whole ∙ named)
              ∙ ap (λ m. by_tenure (steps_in n g t es) 0 k ++ steps_in n g t es m) (sym zero-more)
              ∙ by_tenure-snoc (steps_in n g t es) 0 k;
        }

    at-home-first : Here 0
    at-home-first =
        let home : Arrival U I = record { tenure = 0; unit = unit; queue = [] } in
        let seat : core 0 ≡ (t g).core = ap (λ m. core_in g m t es) (sym at-first) ∙ core_in-now g t es in
        let same : (core 0 == (t g).core) ≡ true = rw seat (self-test (t g).core) in
        let start : In home (news (core 0) 0).came = subst (λ q. In home (news_if q true unit).came) (sym same) (inl refl) in
        let stays = account-keeps 0 (news (core 0) 0) (map (part_of g) (history (core 0))) home start in
        record {
          first = home;
          came = few (core 0) 0 (acc (core 0) 0) (group_at (y (core 0)) g) home (stands (core 0) 0 (below 0)) stays;
          deeds = [];
          runs = refl;
          items = refl;
          names = refl;
          queue = refl;
        }

    moves-on : (k : ℕ) → k < moves g es → Here k → Here (suc k)
    moves-on k lt h =
        let c = core k in
        let d = core (suc k) in
        let left = has-left c k d (acc c k) (group_at (y c) g) h.first (stands c k (below k)) (to-is k lt) h.came (rest-at c (below k)) in
        let s = left.parcel in
        let same : left.first ≡ h.first = heads left.first h.first (sym left.came ∙ h.came) in
        let to : s.to ≡ d = heads s.to d (sym left.to ∙ to-is k lt) in
        let b = blank (c == (t g).core) (k == 0) unit in
        let listed : In s (acc c k).gone = subst (λ xs. In s xs) (sym left.gone) (inl refl) in
        let event : In (parcel s) (map (part_of g) (history c)) = elim (account-gone k (news c k) (map (part_of g) (history c)) s listed) [ inl m ↦ absurd (subst (λ xs. In s xs) b.gone m) | inr m ↦ m ] in
        let shipped = gone-in g s (history c) event in
        let mesh = subst (λ xs. In s xs) (pl.mesh c d (below k) (below (suc k))) (shipped-to d s (history c) to shipped.0) in
        let came = came-part g c s (history d) shipped.1 (landed-from c s (history d) mesh) in
        let listed-there = account-came (suc k) (news d (suc k)) (map (part_of g) (history d)) (arrival_of s) left.next came in
        let lasts = tenure-steps k h s.unit (h.first.queue ++ (acc c k).before) refl (subst (λ (z : Arrival U I). Chain counted name stepped advanced lends env c z.unit (z.queue ++ (acc c k).before) s.unit) same left.chain) in
        record {
          first = arrival_of s;
          came = few d (suc k) (acc d (suc k)) (group_at (y d) g) (arrival_of s) (stands d (suc k) (below (suc k))) listed-there;
          deeds = lasts.deeds;
          runs = lasts.runs;
          items = lasts.items;
          names = lasts.names;
          queue = left.queue ∙ behind-items k;
        }
      where
        heads : {X : Type 0} (p q : X) → p ∷ [] ≡ q ∷ [] → p ≡ q
        heads p q e = cc

    arrives : (k : ℕ) → k ≤ moves g es → Here k
    arrives zero le = at-home-first
    arrives (suc k) le = moves-on k (omega arith) (arrives k (omega arith))

    -- the last tenure's piece
    found : (k : ℕ) → k ≡ moves g es → (h : Here k) → (acc (core k) k).is_open ≡ true → Stand (core k) k (acc (core k) k) (group_at (y (core k)) g)
        → Joined counted name stepped advanced lends env n g t es unit y took
    found k last h was_open (unbegun s) = let shut = s.is_open in absurd (cc)
    found k last h was_open (was_cut s) = let shut = s.is_open in absurd (cc)
    found k last h was_open (over s) = let shut = s.is_open in absurd (cc)
    found k last h was_open (opened s) =
        let c = core k in
        let p = s.piece in
        let is = current-was k (group_at (y c) g).current p s.is in
        let lived = lived-some c h.first p.unit p.remote p.local (acc c k).before (subst (λ z. Lived counted name stepped advanced lends env c z p.unit p.remote p.local (acc c k).before) h.came s.holds.lived) in
        let nothing = (rest-at c (below k)).current p is (ap is_some lived.1) in
        let whole : lived.2.done ≡ h.first.queue ++ (acc c k).before = sym (append-nil lived.2.done) ∙ ap (λ xs. lived.2.done ++ xs) (sym nothing) ∙ sym lived.2.whole in
        let lasts = subst (λ m. Lasts m lived.0) last (tenure-steps k h lived.0 lived.2.done whole lived.2.chain) in
        let stepped-all = runs-steps keeps unit lasts.deeds lived.0 lasts.runs ∙ ap (λ xs. stepped unit ++ xs) lasts.names in
        let waiting = subst (λ m. p.behind ≡ tenure_part name g t es took true m) last (s.holds.behind ∙ behind-items k) in
        let waits = ap (map name) waiting ∙ part-names true (moves g es) in
        record {
          piece = p;
          is = subst (λ m. (group_at (y (core m)) g).current ≡ Some p) last is;
          tenure = s.holds.tenure ∙ last;
          last = lived.0;
          there = lived.1;
          deeds = lasts.deeds;
          runs = lasts.runs;
          items = lasts.items;
          cores = lasts.names;
          steps = stepped-all;
          ready = nothing;
          waits = waiting;
          behind = waits;
          whole = λ none.
              ap (λ xs. map (λ (z : ℕ × ℕ). z.0) xs ++ map name p.behind) (stepped-all ∙ ap (λ xs. xs ++ by_tenure (steps_in n g t es) 0 (suc (moves g es))) none)
              ∙ ap (λ xs. xs ++ map name p.behind) (firsts (λ j. core_in g j t es) (λ j. stages.stepped n g j t es) 0 (suc (moves g es)))
              ∙ ap (λ xs. by_tenure (λ j. stages.stepped n g j t es) 0 (suc (moves g es)) ++ xs) waits
              ∙ wholes n g t es at-core at-first pl.names pl.rings;
          steppers = λ alternate.
              ap (λ xs. by_tenure (λ j. map (step_of j (Some (core_in g j t es))) (stages.stepped n g j t es)) 0 (suc (moves g es)) ++ map (step_of (suc (moves g es)) None) xs) waits
              ∙ whos n g t es at-core at-first pl.names pl.rings alternate;
        }

    pub cores-join : Joined counted name stepped advanced lends env n g t es unit y took
    cores-join = let k = moves g es in found k refl (arrives k (omega arith)) open-is (stands (core k) k (below k))

    -- a unit came only in its tenure, to its core
    came-where : (k d : ℕ) → d < n → (b : Arrival U I) → In b (acc d k).came → (k ≤ moves g es) × (d ≡ core k)
    came-where zero d lt b i =
        elim (account-back 0 (news d 0) (map (part_of g) (history d)) b i) [
          | inl j ↦ (omega arith, at-home-only j)
          | inr j ↦
              let from = came-in g b (history d) j.0 in
              let welcome = was-welcome counted name stepped advanced lends env (x d) (y d) (history d) from.0 from.1 (pl.runs d lt) from.2 in
              let tenure : from.1.tenure ≡ 0 = ap (λ (z : Arrival U I). z.tenure) from.3 ∙ j.1 in
              absurd (let above = welcome.0 in omega (arith, above, tenure))
        ]
      where
        at-home-only : In b (news d 0).came → d ≡ core 0
        at-home-only m =
            let seat : core 0 ≡ (t g).core = ap (λ m. core_in g m t es) (sym at-first) ∙ core_in-now g t es in
            elim (d == (t g).core) as (λ q. (d == (t g).core) ≡ q → In b (news_if q true unit).came → d ≡ core 0) [
              | true ↦ λ q z. let same : d ≡ (t g).core = grind (arith, nat_tests) in same ∙ sym seat
              | false ↦ λ q z. absurd z
            ] refl m
    came-where (suc k) d lt b i =
        elim (account-back (suc k) (news d (suc k)) (map (part_of g) (history d)) b i) [
          | inl j ↦ absurd (none-yet (d == (t g).core) (suc k == 0) (let z : (suc k == 0) ≡ false = grind (arith, nat_tests) in z) j)
          | inr j ↦
              let from = came-in g b (history d) j.0 in
              let c = from.0 in
              let s = from.1 in
              let within = pl.from c d s lt from.2 in
              let tenure : s.tenure ≡ suc k = ap (λ (z : Arrival U I). z.tenure) from.3 ∙ j.1 in
              let welcome = was-welcome counted name stepped advanced lends env (x d) (y d) (history d) c s (pl.runs d lt) from.2 in
              let to : s.to ≡ d = welcome.1 ∙ pl.here d lt in
              let shipped = shipped-from d s (history c) (subst (λ xs. In s xs) (sym (pl.mesh c d within lt)) (landed-to c s (history d) from.2)) in
              let listed = account-left k (news c k) (map (part_of g) (history c)) s tenure (gone-part g s (history c) from.4 shipped) in
              sent-where k c d s within listed to (stands c k within) (λ first m. came-where k c within first m)
        ]
      where
        none-yet : (p q : Bool) → q ≡ false → In b (news_if p q unit).came → ⊥
        none-yet true true e m = absurd (cc)
        none-yet true false e m = m
        none-yet false q e m = m

        sent-where : (k c d : ℕ) (s : Parcel U I) → c < n → In s (acc c k).gone → s.to ≡ d → Stand c k (acc c k) (group_at (y c) g)
            → ((first : Arrival U I) → In first (acc c k).came → (k ≤ moves g es) × (c ≡ core k)) → (suc k ≤ moves g es) × (d ≡ core (suc k))
        sent-where k c d s within listed to (unbegun st) before = absurd (subst (λ xs. In s xs) st.gone listed)
        sent-where k c d s within listed to (opened st) before = absurd (subst (λ xs. In s xs) st.gone listed)
        sent-where k c d s within listed to (was_cut st) before = absurd (subst (λ xs. In s xs) st.gone listed)
        sent-where k c d s within listed to (over st) before =
            let w = st.went in
            let at = before w.first (subst (λ xs. In w.first xs) (sym w.came) (inl refl)) in
            let is : s ≡ w.parcel = elim (subst (λ xs. In s xs) w.gone listed) [ inl e ↦ e | inr m ↦ absurd m ] in
            let target : (acc c k).to ≡ d ∷ [] = w.to ∙ ap (λ z. z ∷ []) (sym (ap (λ (z : Parcel U I). z.to) is) ∙ to) in
            let less : k < moves g es = not-last k c at.0 at.1 st.is_open in
            let sent = to-is k less in
            let here : core (suc k) ∷ [] ≡ d ∷ [] = sym (subst (λ z. (acc z k).to ≡ core (suc k) ∷ []) (sym at.1) sent) ∙ target in
            (less, (let e : core (suc k) ≡ d = cc in sym e))
          where
            not-last : (k c : ℕ) → k ≤ moves g es → c ≡ core k → (acc c k).is_open ≡ false → k < moves g es
            not-last k c le at shut =
                elim (k == moves g es) as (λ q. (k == moves g es) ≡ q → k < moves g es) [
                  | true ↦ λ q.
                      let last : k ≡ moves g es = grind (arith, nat_tests) in
                      let is_open : (acc c k).is_open ≡ true = subst (λ m. (acc c m).is_open ≡ true) (sym last) (subst (λ z. (acc z (moves g es)).is_open ≡ true) (sym (at ∙ ap core last)) open-is) in
                      absurd (cc)
                  | false ↦ λ q. grind (arith, nat_tests)
                ] refl

    above : (k : ℕ) → (k < moves g es) ⊎ (moves g es ≤ k)
    above k = elim (nat_lt k (moves g es)) as (λ q. nat_lt k (moves g es) ≡ q → (k < moves g es) ⊎ (moves g es ≤ k)) [
      | true ↦ λ q. inl (grind (arith, nat_tests))
      | false ↦ λ q. inr (grind (arith, nat_tests))
    ] refl

    -- no ring but that of its core sends a piece, and none once all moves are done
    sends-none : (c k : ℕ) → c < n → ((c ≡ core k → ⊥) ⊎ (moves g es ≤ k)) → (acc c k).to ≡ []
    sends-none c k lt why =
        sent-is c k lt ∙ (elim why [
          | inl other ↦ ends.sent_elsewhere g k c t es pl.rings other
          | inr late ↦ ends.sent_last g k c t es pl.rings (let all = last-is in omega (arith, all, late))
        ])

    never-cut : (c k : ℕ) → c < n → WasCut counted name stepped advanced lends env c k (acc c k) (group_at (y c) g) → ⊥
    never-cut c k lt s =
        elim (above k) [
          | inr late ↦ let none = sends-none c k lt (inr late) in let some = s.to in absurd (cc)
          | inl less ↦
              elim (c == core k) as (λ q. (c == core k) ≡ q → ⊥) [
                | false ↦ λ q.
                    let none = sends-none c k lt (inl (λ e. let test : (c == core k) ≡ true = rw e (self-test (core k)) in absurd (cc))) in
                    let some = s.to in absurd (cc)
                | true ↦ λ q.
                    let same : c ≡ core k = grind (arith, nat_tests) in
                    let h = arrives k (omega (arith, less)) in
                    not-cut c k (acc c k) (group_at (y c) g) h.first s (subst (λ z. (acc z k).came ≡ h.first ∷ []) (sym same) h.came) (rest-at c lt)
              ] refl
        ]

    cut-none : (c k : ℕ) → c < n → Stand c k (acc c k) (group_at (y c) g) → cut_at k (group_at (y c) g).cut ≡ []
    cut-none c k lt (unbegun s) = s.no_cut
    cut-none c k lt (opened s) = s.no_cut
    cut-none c k lt (over s) = s.no_cut
    cut-none c k lt (was_cut s) = absurd (never-cut c k lt s)

    early-none : (c k : ℕ) → c < n → Stand c k (acc c k) (group_at (y c) g) → early_at k (group_at (y c) g).early ≡ []
    early-none c k lt (opened s) = s.no_early
    early-none c k lt (over s) = s.no_early
    early-none c k lt (was_cut s) = s.no_early
    early-none c k lt (unbegun s) =
        elim s.few [
          | inl none ↦ s.early ∙ none
          | inr one ↦
              let at = came-where k c lt one.0 (subst (λ xs. In one.0 xs) (sym one.1) (inl refl)) in
              elim (above k) [
                | inl less ↦ let sent = subst (λ z. (acc z k).to ≡ core (suc k) ∷ []) (sym at.1) (to-is k less) in let none = s.to in absurd (cc)
                | inr late ↦
                    let last : k ≡ moves g es = let le = at.0 in omega (arith, le, late) in
                    let was_open : (acc c k).is_open ≡ true = subst (λ m. (acc c m).is_open ≡ true) (sym last) (subst (λ z. (acc z (moves g es)).is_open ≡ true) (sym (at.1 ∙ ap core last)) open-is) in
                    let shut = s.is_open in absurd (cc)
              ]
        ]

    open-where : (c k : ℕ) → c < n → (acc c k).is_open ≡ true → c ≡ core (moves g es)
    open-where c k lt o =
        let is = sym (opens-is c k lt) ∙ o in
        elim (c == core (moves g es)) as (λ q. (c == core (moves g es)) ≡ q → opens k (if q then Some (moves g es) else None) ≡ true → c ≡ core (moves g es)) [
          | true ↦ λ q z. grind (arith, nat_tests)
          | false ↦ λ q z. absurd (cc)
        ] refl is

    piece-where : (c : ℕ) → c < n → (p : Piece U I) → current_at p.tenure (group_at (y c) g).current ≡ Some p
        → Stand c p.tenure (acc c p.tenure) (group_at (y c) g) → c ≡ core (moves g es)
    piece-where c lt p is (opened s) = open-where c p.tenure lt s.is_open
    piece-where c lt p is (unbegun s) = let none = s.no_current in absurd (cc)
    piece-where c lt p is (was_cut s) = let none = s.no_current in absurd (cc)
    piece-where c lt p is (over s) = let none = s.no_current in absurd (cc)

    current-none : (c : ℕ) → c < n → (c ≡ core (moves g es) → ⊥) → (q : Option (Piece U I)) → (group_at (y c) g).current ≡ q → q ≡ None
    current-none c lt other None e = refl
    current-none c lt other (Some p) e =
        let is : current_at p.tenure (group_at (y c) g).current ≡ Some p = ap (current_at p.tenure) e ∙ (rw (self-test p.tenure) refl) in
        absurd (other (piece-where c lt p is (stands c p.tenure lt)))

    pub nowhere-else : NowhereElse counted name stepped advanced lends env n g t es y
    nowhere-else = record {
      no_cut = λ c lt. cut-nil (group_at (y c) g).cut (λ k. cut-none c k lt (stands c k lt));
      no_early = λ c lt. early-nil (group_at (y c) g).early (λ k. early-none c k lt (stands c k lt));
      no_current = λ c lt other. current-none c lt other (group_at (y c) g).current refl;
    }
