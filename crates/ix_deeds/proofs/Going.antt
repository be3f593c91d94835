-- From one moment to the next, tenure after tenure.
use Rattle.std.proofs.Common.{◌≡◌, ◌⊎◌, ℕ, suc, zero, ◌+◌, ◌<◌, Bool, true, false, List, [], ◌∷◌, ◌++◌, length, refl, sym, ap, ◌∙◌, subst, arith, inl, inr}
use Rattle.std.specs.Prelude.{◌==◌, Option, Some, None}
use Rattle.ix_desk.specs.Views.{Arrival, Group, Piece, View}
use Rattle.ix_desk.specs.Desks.{group_at}
use Rattle.ix_history.specs.Runs.{Runs}
use Rattle.ix_history.specs.Events.{Event, Parcel, took, came, worked, gone, lent, arrival_of, Happened}
use Rattle.ix_history.specs.Join.{In}
use Rattle.ix_deeds.specs.Acts.{Act, step, loan, DidAct, DidStep}
use Rattle.ix_deeds.specs.Going.{AllDesksStay, AreBounded, IsSeated, PiecesAreOpen, UnitsGoOn, WasDone, WentOn}
use Rattle.ix_deeds.proofs.Lists.{all-none, gone-among, landed-in}
use Rattle.ix_deeds.proofs.Parts.{landed-later, core-stays, size-stays, test-eq, self-test}
use Rattle.ix_deeds.proofs.Holding.{CurrentAt, CutAt, EarlyAt, PieceHolds, UnitHolds}
use Rattle.ix_deeds.proofs.Passing.{Arrived, Hold, runs-hold, runs-open}

-- the works of a history have some bound
bound-of : {U I O : Type 0} (es : List (Event U I O)) → (b : ℕ) × AreBounded b es
bound-of [] = (0, λ max i. absurd i)
bound-of (took x ∷ es) = let rest = bound-of es in (rest.0, λ max i. elim i [ inl e ↦ absurd (cc) | inr j ↦ rest.1 max j ])
bound-of (came c s ∷ es) = let rest = bound-of es in (rest.0, λ max i. elim i [ inl e ↦ absurd (cc) | inr j ↦ rest.1 max j ])
bound-of (gone s ∷ es) = let rest = bound-of es in (rest.0, λ max i. elim i [ inl e ↦ absurd (cc) | inr j ↦ rest.1 max j ])
bound-of (lent h u out v ∷ es) = let rest = bound-of es in (rest.0, λ max i. elim i [ inl e ↦ absurd (cc) | inr j ↦ rest.1 max j ])
bound-of (worked m ∷ es) =
    let rest = bound-of es in
    (rest.0 + m, λ max i. elim i [ inl e ↦ (let same : max ≡ m = cc in omega (arith, same)) | inr j ↦ (let le = rest.1 max j in omega (arith, le)) ])

runs-last : {S E : Type 0} (Step : S → E → S → Type 0) (x y z : S) (es : List E) (e : E) → Runs Step x es y → Step y e z → Runs Step x (es ++ e ∷ []) z
runs-last Step x y z [] e r s = (z, subst (λ w. Step w e z) r s, refl)
runs-last Step x y z (d ∷ es) e r s = (r.0, r.1, runs-last Step r.0 y z es e r.2 s)

module _ {U I O E : Type 0} (counted : I → Bool) (name : I → ℕ) (stepped : U → List (ℕ × ℕ)) (advanced : U → E → ℕ → List I → U → Type 0) (lends : U → O → U → Type 0) (env : E) where
  came-later : (x y : View U I) (es : List (Event U I O)) (c : ℕ) (s : Parcel U I) → Runs (Happened counted name stepped advanced lends env) x es y → In (came c s) es → 0 < s.tenure
  came-later x y [] c s runs i = absurd i
  came-later x y (e ∷ es) c s runs (inl same) = landed-later counted name stepped advanced lends env 0 x runs.0 c s (subst (λ q. Happened counted name stepped advanced lends env x q runs.0) (sym same) runs.1)
  came-later x y (e ∷ es) c s runs (inr i) = came-later runs.0 y es c s runs.2 i

  module _ (tenure_of : ℕ → ℕ) (named : ℕ → I) (bound n g : ℕ) (x y : ℕ → View U I) (more : ℕ → List (Event U I O)) (o : ℕ → Option ℕ) (f : ℕ → Bool) (group : g < 512)
      (on : WentOn counted name stepped advanced lends env tenure_of named bound n g x y more o f) (core : ℕ) (unit : U) (seat : IsSeated name tenure_of named n g x core unit) where
    -- a unit that the first one became
    record Became (u : U) : Type 0 where
      acts : List (Act I O)
      runs : Runs (DidAct counted name stepped advanced lends env tenure_of named bound) unit acts u

    stepping : (a : U) (k c : ℕ) (items : List I) (b : U) → DidStep counted name stepped advanced lends env tenure_of named bound a k c items b → Became a → Became b
    stepping a k c items b did was = record { acts = was.acts ++ step k c items ∷ []; runs = runs-last (DidAct counted name stepped advanced lends env tenure_of named bound) unit a b was.acts (step k c items) was.runs did }

    lending : (a : U) (out : O) (b : U) → lends a out b → Became a → Became b
    lending a out b did was = record { acts = was.acts ++ loan out ∷ []; runs = runs-last (DidAct counted name stepped advanced lends env tenure_of named bound) unit a b was.acts (loan out) was.runs did }

    abbrev Holding : ℕ → Group U I → Type 0
    Holding k z = Hold counted name stepped advanced lends env bound tenure_of named Became stepping lending g group k z

    abbrev Came : Arrival U I → Type 0
    Came a = Arrived counted name stepped advanced lends env bound tenure_of named Became stepping lending g group a

    abbrev UnitIs : Option U → Type 0
    UnitIs u = UnitHolds counted name stepped advanced lends env bound tenure_of named Became stepping lending u

    abbrev PieceIs : Piece U I → Type 0
    PieceIs p = PieceHolds counted name stepped advanced lends env bound tenure_of named Became stepping lending p

    -- at the first moment
    seat-holds : PieceIs seat.piece
    seat-holds = record { unit = subst UnitIs (sym seat.there) (record { acts = []; runs = refl }); waits = seat.waits }

    current-holds : (k : ℕ) (p q : Option (Piece U I)) → p ≡ q → (q ≡ None) ⊎ (q ≡ Some seat.piece) → CurrentAt counted name stepped advanced lends env bound tenure_of named Became stepping lending k p
    current-holds k None q e i = tt
    current-holds k (Some p) q e (inl none) = absurd (cc)
    current-holds k (Some p) q e (inr some) = λ t. let same : seat.piece ≡ p = cc in subst PieceIs same seat-holds

    holds-first : (k c : ℕ) → c < n → Holding k (group_at (x c) g)
    holds-first k c lt = record {
      cut = all-none (CutAt counted name stepped advanced lends env bound tenure_of named Became stepping lending k) (group_at (x c) g).cut (seat.no_cut c lt);
      current = current-holds k (group_at (x c) g).current (group_at (x c) g).current refl (by_core (c == core) refl);
      early = all-none (EarlyAt counted name stepped advanced lends env bound tenure_of named Became stepping lending k) (group_at (x c) g).early (seat.no_early c lt);
    }
      where
        by_core : (q : Bool) → (c == core) ≡ q → ((group_at (x c) g).current ≡ None) ⊎ ((group_at (x c) g).current ≡ Some seat.piece)
        by_core true e = let same = test-eq c core e in inr (subst (λ m. (group_at (x m) g).current ≡ Some seat.piece) (sym same) seat.is)
        by_core false e = inl (seat.no_current c lt (λ same. let yes_is : (c == core) ≡ true = subst (λ m. (c == m) ≡ true) same (self-test c) in absurd (cc)))

    -- what came, of each tenure
    arrived : (k c d : ℕ) (s : Parcel U I) → d < n → In (came c s) (more d) → s.group ≡ g → s.tenure ≡ k → Came (arrival_of s)
    arrived zero c d s lt i same tenure = absurd (let later = came-later (x d) (y d) (more d) c s (on.runs d lt) i in omega (arith, later, tenure))
    arrived (suc k) c d s lt i same tenure =
        let within = on.from c d s lt i in
        let left = gone-among d s (more c) (subst (λ xs. In s xs) (sym (on.mesh c d within lt)) (landed-in c s (more d) i)) in
        let held = runs-hold counted name stepped advanced lends env bound tenure_of named Became stepping lending g group k (x c) (y c) (more c) (o c) (f c) (on.size c within) (on.bounds c within)
        (on.runs c within) (on.is_open c within) (on.right c within) (λ b t j grp ten. arrived k b c t within j grp ten) (holds-first k c within) in
        held.1 s left same tenure

    -- at the second moment
    was-done : (c : ℕ) (p : Piece U I) (v : U) → c < n → (group_at (y c) g).current ≡ Some p → p.unit ≡ Some v → WasDone counted name stepped advanced lends env tenure_of named bound unit p v
    was-done c p v lt is there =
        let k = p.tenure in
        let held = runs-hold counted name stepped advanced lends env bound tenure_of named Became stepping lending g group k (x c) (y c) (more c) (o c) (f c) (on.size c lt) (on.bounds c lt)
        (on.runs c lt) (on.is_open c lt) (on.right c lt) (λ b t j grp ten. arrived k b c t lt j grp ten) (holds-first k c lt) in
        let at = subst (λ q. CurrentAt counted name stepped advanced lends env bound tenure_of named Became stepping lending k q) is held.0.current in
        let piece = at refl in
        let became : Became v = subst UnitIs there piece.unit in
        record { acts = became.acts; runs = became.runs; waits = piece.waits }

module _ {U I O E : Type 0} (counted : I → Bool) (name : I → ℕ) (stepped : U → List (ℕ × ℕ)) (advanced : U → E → ℕ → List I → U → Type 0) (lends : U → O → U → Type 0) where
  pub units-go-on : UnitsGoOn counted name stepped advanced lends
  units-go-on env tenure_of named bound n g x y more o f group on core unit seat c p v lt is there =
      was-done counted name stepped advanced lends env tenure_of named bound n g x y more o f group on core unit seat c p v lt is there

  pub pieces-are-open : PiecesAreOpen counted name stepped advanced lends
  pieces-are-open env g x y history o f len lt runs op =
      let b = bound-of history in
      runs-open counted name stepped advanced lends env b.0 g x y history o f len lt b.1 runs op

  pub desks-stay : AllDesksStay counted name stepped advanced lends
  desks-stay env x y [] runs = record { core = ap (λ (v : View U I). v.core) runs; size = ap (λ (v : View U I). length v.groups) runs }
  desks-stay env x y (e ∷ es) runs =
      let rest = desks-stay env runs.0 y es runs.2 in
      record {
        core = rest.core ∙ core-stays counted name stepped advanced lends env 0 x runs.0 e runs.1;
        size = rest.size ∙ size-stays counted name stepped advanced lends env 0 x runs.0 e runs.1;
      }
