-- What the cores of a play have stepped.
use Rattle.std.proofs.Common.{◌≡◌, ℕ, zero, suc, refl, sym, ap, ◌∙◌, subst, Bool, true, false, List, [], ◌∷◌, ◌++◌, map, fold, append-nil}
use Rattle.std.specs.Prelude.{if◌then◌else◌, ◌==◌, is_some, Option, Some, None}
use Rattle.std.specs.List.{AllByRecursion}
use Rattle.std.proofs.lemmas.Bool.{eqb-true, eqb-false}
use Rattle.ix_history.specs.Laws.{JoinLaw}
use Rattle.ix_order.specs.Pieces.{by_tenure, core_in}
use Rattle.ix_order.specs.Stages as stages
use Rattle.ix_order.specs.Steppers.{LastTag, none_yet, Step, last_tag_by, step_of, stepper, steps, tagged_by, tags_by}
use Rattle.ix_order.specs.Wire.{Entry, frame, time, tag, move, settle, entry_of, moves}
use Rattle.ix_fits.specs.Stepping.{AreLongest, AreRuns, SteppingLaw, Tenure, TenuresAreRuns, on_core, tenure_of, tenures, tenures_with, with_cores}
use Rattle.ix_fits.proofs.AloneLaws.{Opens, has-stepper, opens-after}

-- ## Runs
runs-with : (s : ℕ × ℕ) (ts : List Tenure) (all : List (ℕ × ℕ)) → AreRuns ts all → AreRuns (tenures_with s ts) (s ∷ all)
runs-with s [] all p = ([], record { later = []; cut = ap (λ (ss : List (ℕ × ℕ)). s ∷ ss) p; cores = tt; ends = refl }, refl)
runs-with s (t ∷ ts) all p = by_test (s.1 == t.core) refl
  where
    by_test : (b : Bool) → (s.1 == t.core) ≡ b → AreRuns (if b then record { core = t.core; first = s.0; last = t.last } ∷ ts else tenure_of s ∷ t ∷ ts) (s ∷ all)
    by_test true e = (
      p.0,
      record {
        later = (t.first, t.core) ∷ p.1.later;
        cut = ap (λ (ss : List (ℕ × ℕ)). s ∷ ss) p.1.cut ∙ ap (λ (c : ℕ). (let q : ℕ × ℕ = (s.0, c) in q) ∷ (((t.first, t.core) ∷ p.1.later) ++ p.0)) (eqb-true s.1 t.core e);
        cores = (refl, p.1.cores);
        ends = p.1.ends;
      },
      p.2,
    )
    by_test false e = (all, record { later = []; cut = refl; cores = tt; ends = refl }, p)

longest-with : (s : ℕ × ℕ) (ts : List Tenure) → AreLongest ts → AreLongest (tenures_with s ts)
longest-with s [] p = (tt, tt)
longest-with s (t ∷ ts) p = by_test (s.1 == t.core) refl
  where
    by_test : (b : Bool) → (s.1 == t.core) ≡ b → AreLongest (if b then record { core = t.core; first = s.0; last = t.last } ∷ ts else tenure_of s ∷ t ∷ ts)
    by_test true e = p
    by_test false e = (eqb-false s.1 t.core e, p)

pub tenures_are_runs : TenuresAreRuns
tenures_are_runs [] = (refl, tt)
tenures_are_runs (s ∷ ss) =
    let later = tenures_are_runs ss in (runs-with s (tenures ss) ss later.0, longest-with s (tenures ss) later.1)

-- ## Steps with their cores
with-one : (w : ℕ) (o : Option ℕ) (front back : List (ℕ × ℕ)) → on_core w o ++ (front ++ back) ≡ (on_core w o ++ front) ++ back
with-one w None front back = refl
with-one w (Some c) front back = refl

with-append : (xs ys : List Step) → with_cores (xs ++ ys) ≡ with_cores xs ++ with_cores ys
with-append [] ys = refl
with-append (x ∷ xs) ys =
    ap (λ (ss : List (ℕ × ℕ)). on_core x.entry x.core ++ ss) (with-append xs ys) ∙ with-one x.entry x.core (with_cores xs) (with_cores ys)

with-tenures : (f : ℕ → List Step) (j n : ℕ) → with_cores (by_tenure f j n) ≡ by_tenure (λ k. with_cores (f k)) j n
with-tenures f j zero = refl
with-tenures f j (suc n) = with-append (f j) (by_tenure f (suc j) n) ∙ ap (λ (ss : List (ℕ × ℕ)). with_cores (f j) ++ ss) (with-tenures f (suc j) n)

with-some : (k c : ℕ) (ws : List ℕ) → with_cores (map (step_of k (Some c)) ws) ≡ map (λ (w : ℕ). (let q : ℕ × ℕ = (w, c) in q)) ws
with-some k c [] = refl
with-some k c (w ∷ ws) = ap (λ (ss : List (ℕ × ℕ)). (w, c) ∷ ss) (with-some k c ws)

with-none : (k : ℕ) (ws : List ℕ) → with_cores (map (step_of k None) ws) ≡ []
with-none k [] = refl
with-none k (w ∷ ws) = with-none k ws

by-tenure-same : (f h : ℕ → List (ℕ × ℕ)) (j n : ℕ) → ((k : ℕ) → f k ≡ h k) → by_tenure f j n ≡ by_tenure h j n
by-tenure-same f h j zero same = refl
by-tenure-same f h j (suc n) same =
    ap (λ (ss : List (ℕ × ℕ)). ss ++ by_tenure f (suc j) n) (same j) ∙ ap (λ (ss : List (ℕ × ℕ)). h j ++ ss) (by-tenure-same f h (suc j) n same)

-- ## Where no tag is open each entry has its core
abbrev StepHasCore : Step → Type 0
StepHasCore s = is_some s.core ≡ true

all-with : (k : ℕ) (core : Option ℕ) (ws : List ℕ) (rest : List Step) → is_some core ≡ true → AllByRecursion StepHasCore rest → AllByRecursion StepHasCore (map (step_of k core) ws ++ rest)
all-with k core [] rest e p = p
all-with k core (w ∷ ws) rest e p = (e, all-with k core ws rest e p)

steps-have : (g c k : ℕ) (s : LastTag) (b : Bool) (w : ℕ) (es : List Entry) → Opens s b → fold (tagged_by g) b es ≡ false → AllByRecursion StepHasCore (steps g c k s w es)
steps-have g c k s b w [] p e = tt
steps-have g c k s b w (frame h v ∷ es) p e =
    all-with k (stepper g c s es) (entry_of g w (frame h v)) (steps g c k s (suc w) es) (has-stepper g c s b es p e) (steps-have g c k s b (suc w) es p e)
steps-have g c k s b w (time ∷ es) p e =
    all-with k (stepper g c s es) (entry_of g w time) (steps g c k s (suc w) es) (has-stepper g c s b es p e) (steps-have g c k s b (suc w) es p e)
steps-have g c k s b w (tag h ∷ es) p e =
    steps-have g c (tags_by g k (tag h)) (last_tag_by g s (tag h)) (tagged_by g b (tag h)) (suc w) es (opens-after g s b (tag h) p) e
steps-have g c k s b w (move h d ∷ es) p e =
    steps-have g c (tags_by g k (move h d)) (last_tag_by g s (move h d)) (tagged_by g b (move h d)) (suc w) es (opens-after g s b (move h d) p) e
steps-have g c k s b w (settle ∷ es) p e = steps-have g c k s b (suc w) es p e

-- so none is without one
none-left : (xs : List Step) (k : ℕ) (ws : List ℕ) → AllByRecursion StepHasCore (xs ++ map (step_of k None) ws) → ws ≡ []
none-left [] k [] p = refl
none-left [] k (w ∷ ws) p = let e : is_some (let o : Option ℕ = None in o) ≡ true = p.0 in absurd (cc)
none-left (x ∷ xs) k ws p = none-left xs k ws p.1

unnamed : {I : Type 0} (name : I → ℕ) (xs : List I) → map name xs ≡ [] → xs ≡ []
unnamed name [] e = refl
unnamed name (x ∷ xs) e = absurd (cc)

-- ## The law
module _ {U I O E : Type 0} (counted : I → Bool) (name : I → ℕ) (stepped : U → List (ℕ × ℕ)) (advanced : U → E → ℕ → List I → U → Type 0) (lends : U → O → U → Type 0) where
  pub stepping-law : JoinLaw counted name stepped advanced lends → SteppingLaw counted name stepped advanced lends
  stepping-law join env n g t es unit x y history played lt alternate none =
      let joined = (join env n g t es unit x y history played lt).0 in
      let m : ℕ = moves g es in
      let is : by_tenure (λ k. map (step_of k (Some (core_in g k t es))) (stages.stepped n g k t es)) 0 (suc m) ++ map (step_of (suc m) None) (map name joined.piece.behind) ≡ steps g (t g).core 0 none_yet 0 es = joined.steppers alternate in
      let closed : fold (tagged_by g) false es ≡ false → joined.piece.behind ≡ [] = λ e.
      unnamed name joined.piece.behind
      (none-left (by_tenure (λ k. map (step_of k (Some (core_in g k t es))) (stages.stepped n g k t es)) 0 (suc m)) (suc m) (map name joined.piece.behind)
      (subst (AllByRecursion StepHasCore) (sym is) (steps-have g (t g).core 0 none_yet false 0 es tt e))) in
      record {
        piece = joined.piece;
        is = joined.is;
        unit = joined.last;
        there = joined.there;
        steps_are =
            joined.steps
            ∙ ap (λ (ss : List (ℕ × ℕ)). ss ++ by_tenure (λ k. map (λ (w : ℕ). (let q : ℕ × ℕ = (w, core_in g k t es) in q)) (stages.stepped n g k t es)) 0 (suc m)) none
            ∙ by-tenure-same (λ k. map (λ (w : ℕ). (let q : ℕ × ℕ = (w, core_in g k t es) in q)) (stages.stepped n g k t es)) (λ k. with_cores (map (step_of k (Some (core_in g k t es))) (stages.stepped n g k t es))) 0 (suc m) (λ k. sym (with-some k (core_in g k t es) (stages.stepped n g k t es)))
            ∙ sym (with-tenures (λ k. map (step_of k (Some (core_in g k t es))) (stages.stepped n g k t es)) 0 (suc m))
            ∙ sym (append-nil (with_cores (by_tenure (λ k. map (step_of k (Some (core_in g k t es))) (stages.stepped n g k t es)) 0 (suc m))))
            ∙ ap (λ (ss : List (ℕ × ℕ)). with_cores (by_tenure (λ k. map (step_of k (Some (core_in g k t es))) (stages.stepped n g k t es)) 0 (suc m)) ++ ss) (sym (with-none (suc m) (map name joined.piece.behind)))
            ∙ sym (with-append (by_tenure (λ k. map (step_of k (Some (core_in g k t es))) (stages.stepped n g k t es)) 0 (suc m)) (map (step_of (suc m) None) (map name joined.piece.behind)))
            ∙ ap with_cores is;
        all = λ e. sym (append-nil (map (λ (s : ℕ × ℕ). s.0) (stepped joined.last))) ∙ ap (λ (xs : List I). map (λ (s : ℕ × ℕ). s.0) (stepped joined.last) ++ map name xs) (sym (closed e)) ∙ joined.whole none;
        waits = closed;
      }
