-- What one core did in one tenure, by the account.
use Rattle.std.proofs.Common.{◌≡◌, ℕ, ◌<◌, Bool, true, false, List, [], ◌∷◌, ◌++◌, length, map, refl, sym, ap, ◌∙◌, subst, arith, inl, inr}
use Rattle.std.specs.Prelude.{◌==◌, if◌then◌else◌, Option, Some, None}
use Rattle.std.proofs.lemmas.Bool.Decides.{nat_tests}
use Rattle.ix_desk.specs.Views.{Piece, CutPiece, Arrival, View}
use Rattle.ix_desk.specs.Groups.{empty, at_home}
use Rattle.ix_desk.specs.Desks.{group_at}
use Rattle.ix_history.specs.Runs.{Runs}
use Rattle.ix_history.specs.Events.{Parcel, Event, part_of, Happened}
use Rattle.ix_history.specs.Items.{taken_in}
use Rattle.ix_history.specs.Pieces.{Account, account, cut_at, current_at, Chain, Done, Lived, Holds, Stands, unbegun, opened, was_cut, over}
use Rattle.ix_history.specs.Join.{In}
use Rattle.ix_history.specs.Tenure.{open_first, WasHome, CameSomehow, own_part, ShippedLaw, PieceIs, TenureLaw}
use Rattle.ix_history.proofs.Law.{piece-law}
use Rattle.ix_history.proofs.Heard.{heard_of, account-heard, Read, reads}
use Rattle.ix_history.proofs.Members.{account-left, gone-part, came-in, account-back}
use Rattle.ix_history.proofs.Cores.{news_if, blank, news-open, stands-start}

test-eq : (h g : ℕ) → (h == g) ≡ true → h ≡ g
test-eq h g e = grind (arith, nat_tests)

self-test : (n : ℕ) → (n == n) ≡ true
self-test n = grind (arith, nat_tests)

in-if : {X : Type 0} (q : Bool) (x y : X) (xs : List X) → In x xs → In x (if q then y ∷ xs else xs)
in-if true x y xs i = inr i
in-if false x y xs i = i

-- a piece of tenure k that was cut is among those of tenure k
module _ {U I : Type 0} (k : ℕ) (c : CutPiece U I) where
  cut-in : (cs : List (CutPiece U I)) → c.piece.tenure ≡ k → In c cs → In c (cut_at k cs)
  cut-in [] t i = absurd i
  cut-in (d ∷ cs) t (inl e) = let same : d.piece.tenure ≡ k = sym (ap (λ (z : CutPiece U I). z.piece.tenure) e) ∙ t in let at : (d.piece.tenure == k) ≡ true = rw same (self-test k) in rw at (inl e)
  cut-in (d ∷ cs) t (inr i) = in-if (d.piece.tenure == k) c d (cut_at k cs) (cut-in cs t i)

in-one : {X : Type 0} (x y : X) (xs : List X) → xs ≡ y ∷ [] → In x xs → x ≡ y
in-one x y xs e i = elim (subst (λ zs. In x zs) e i) [ inl s ↦ s | inr n ↦ absurd n ]

module _ {U I O E : Type 0} (counted : I → Bool) (name : I → ℕ) (stepped : U → List (ℕ × ℕ)) (advanced : U → E → ℕ → List I → U → Type 0) (lends : U → O → U → Type 0) (env : E)
    (g k : ℕ) (home : Bool) (unit : U) (x y : View U I) (history : List (Event U I O)) (len : length x.groups ≡ 512) (lt : g < 512)
    (opens-at : group_at x g ≡ (if home then at_home unit else empty)) (runs : Runs (Happened counted name stepped advanced lends env) x history y) where
  abbrev here : ℕ
  here = x.core

  abbrev first_news : Account U I
  first_news = news_if counted name stepped advanced lends env home (k == 0) unit

  abbrev acc : Account U I
  acc = account k first_news (map (part_of g) history)

  stands : Stands counted name stepped advanced lends env here k acc (group_at y g)
  stands =
      let start = subst (λ z. Stands counted name stepped advanced lends env here k first_news z) (sym opens-at) (stands-start counted name stepped advanced lends env here k unit home (k == 0) refl) in
      piece-law counted name stepped advanced lends env here g k x y history first_news refl len lt runs start

  read : Read name g k (heard_of first_news) (heard_of acc) (open_first home) false (taken_in history)
  read =
      let b = blank counted name stepped advanced lends env home (k == 0) unit in
      subst (λ h. Read name g k (heard_of first_news) h (open_first home) false (taken_in history)) (sym (account-heard g k first_news history))
      (reads name g k (heard_of first_news) (open_first home) false (taken_in history) (news-open counted name stepped advanced lends env home (k == 0) unit k 0 refl refl) (λ o. b.tagged))

  before-is : acc.before ≡ own_part name g k home false history
  before-is = let b = blank counted name stepped advanced lends env home (k == 0) unit in read.before ∙ ap (λ xs. xs ++ own_part name g k home false history) b.before

  behind-is : acc.behind ≡ own_part name g k home true history
  behind-is = let b = blank counted name stepped advanced lends env home (k == 0) unit in read.behind ∙ ap (λ xs. xs ++ own_part name g k home true history) b.behind

  -- a unit came, or was at home
  came-so : (first : Arrival U I) → In first acc.came → CameSomehow g k home unit history first
  came-so first i =
      elim (account-back k first_news (map (part_of g) history) first i) [
        | inl j ↦ inl (at-home-only home (k == 0) refl refl j)
        | inr j ↦
            let from = came-in g first history j.0 in
            inr (record { core = from.0; parcel = from.1; event = from.2; group = from.4; tenure = ap (λ (z : Arrival U I). z.tenure) from.3 ∙ j.1; is = sym from.3 })
      ]
    where
      at-home-only : (p q : Bool) → home ≡ p → (k == 0) ≡ q → In first (news_if counted name stepped advanced lends env p q unit).came → WasHome home unit k first
      at-home-only true true h z (inl e) = record { home_is = h; tenure = test-eq k 0 z; is = e }
      at-home-only true true h z (inr n) = absurd n
      at-home-only true false h z n = absurd n
      at-home-only false q h z n = absurd n

  -- the piece, with its unit or without
  lived-is : (p : Piece U I) (u : Option U) (came : List (Arrival U I)) → acc.came ≡ came → p.behind ≡ acc.behind
      → Lived counted name stepped advanced lends env here came u p.remote p.local acc.before → PieceIs counted name stepped advanced lends env here g k home unit history p u
  lived-is p None [] e b l = record { remote = l.0; local = l.1 ∙ before-is; behind = b ∙ behind-is }
  lived-is p (Some u) [] e b l = absurd l
  lived-is p None (a ∷ []) e b l = absurd l
  lived-is p (Some u) (a ∷ []) e b l = record {
    first = a;
    came_so = came-so a (subst (λ xs. In a xs) (sym e) (inl refl));
    so_far = subst (λ xs. Done counted name stepped advanced lends env here a.queue xs (p.remote ++ p.local) a.unit u) before-is l;
    behind = b ∙ behind-is;
  }
  lived-is p None (a ∷ c ∷ more) e b l = absurd l
  lived-is p (Some u) (a ∷ c ∷ more) e b l = absurd l

  holds-is : (p q : Piece U I) → Holds counted name stepped advanced lends env here k acc q → p ≡ q → PieceIs counted name stepped advanced lends env here g k home unit history p p.unit
  holds-is p q h e =
      subst (λ z. PieceIs counted name stepped advanced lends env here g k home unit history z z.unit) (sym e) (lived-is q q.unit acc.came refl h.behind h.lived)

  cut-is : (c : CutPiece U I) → In c (cut_at k (group_at y g).cut) → Stands counted name stepped advanced lends env here k acc (group_at y g)
      → PieceIs counted name stepped advanced lends env here g k home unit history c.piece c.piece.unit
  cut-is c i (unbegun s) = absurd (subst (λ cs. In c cs) s.no_cut i)
  cut-is c i (opened s) = absurd (subst (λ cs. In c cs) s.no_cut i)
  cut-is c i (over s) = absurd (subst (λ cs. In c cs) s.no_cut i)
  cut-is c i (was_cut s) = holds-is c.piece s.piece.piece s.holds (ap (λ (z : CutPiece U I). z.piece) (in-one c s.piece (cut_at k (group_at y g).cut) s.is i))

  current-is : (p : Piece U I) → current_at k (group_at y g).current ≡ Some p → Stands counted name stepped advanced lends env here k acc (group_at y g)
      → PieceIs counted name stepped advanced lends env here g k home unit history p p.unit
  current-is p e (unbegun s) = let none = s.no_current in absurd (cc)
  current-is p e (was_cut s) = let none = s.no_current in absurd (cc)
  current-is p e (over s) = let none = s.no_current in absurd (cc)
  current-is p e (opened s) = holds-is p s.piece s.holds (let is = s.is in cc)

  shipped-is : (s : Parcel U I) → In s acc.gone → Stands counted name stepped advanced lends env here k acc (group_at y g)
      → ShippedLaw counted name stepped advanced lends env here g k home unit history s
  shipped-is s i (unbegun st) = absurd (subst (λ xs. In s xs) st.gone i)
  shipped-is s i (opened st) = absurd (subst (λ xs. In s xs) st.gone i)
  shipped-is s i (was_cut st) = absurd (subst (λ xs. In s xs) st.gone i)
  shipped-is s i (over st) =
      let w = st.went in
      let same : s ≡ w.parcel = in-one s w.parcel acc.gone w.gone i in
      subst (λ z. ShippedLaw counted name stepped advanced lends env here g k home unit history z) (sym same) (record {
        first = w.first;
        came_so = came-so w.first (subst (λ xs. In w.first xs) (sym w.came) (inl refl));
        stepped_all = subst (λ xs. Chain counted name stepped advanced lends env here w.first.unit (w.first.queue ++ xs) w.parcel.unit) before-is w.chain;
        queue = w.queue ∙ behind-is;
      })

  pub tenure-law : TenureLaw counted name stepped advanced lends env here g k home unit history y
  tenure-law = record {
    shipped = λ s i group next. shipped-is s (account-left k first_news (map (part_of g) history) s next (gone-part g s history group i)) stands;
    cut = λ c i tenure. cut-is c (cut-in k c (group_at y g).cut tenure i) stands;
    current = λ p is tenure. current-is p (ap (current_at k) is ∙ (let at : (p.tenure == k) ≡ true = rw tenure (self-test k) in rw at refl)) stands;
  }
