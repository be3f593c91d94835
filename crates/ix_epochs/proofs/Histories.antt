-- Histories by what was shipped and what came.
use Rattle.std.proofs.Common.{◌≡◌, ◌≢◌, ◌<◌, ◌≤◌, ◌+◌, ◌-◌, ◌⊎◌, ◌++◌, inl, inr, ℕ, zero, suc, Bool, true, false, List, [], ◌∷◌, length, map, refl, sym, ap, subst, ◌∙◌, arith}
use Rattle.std.specs.Prelude.{◌==◌, ◌&&◌, All, not, if◌then◌else◌}
use Rattle.std.proofs.lemmas.Bool.{cases_eq}
use Rattle.std.proofs.lemmas.Bool.Decides.{nat_tests}
use Rattle.std.proofs.lemmas.List.Elements.{All-head, All-tail}
use Rattle.ix_mbuf.specs.Buffers.{Buffer}
use Rattle.ix_desk.specs.Pieces.{joined}
use Rattle.ix_desk.specs.Views.{View}
use Rattle.ix_stack.specs.declared.work.Work.{Work}
use Rattle.ix_history.specs.Events.{Event, Happened, Parcel, came, gone, lent, took, worked}
use Rattle.ix_history.specs.Items.{came_from, gone_to, taken_in}
use Rattle.ix_history.specs.Join.{In}
use Rattle.ix_history.specs.Run.{landed_in, shipped_in}
use Rattle.ix_history.specs.Runs.{Runs}
use Rattle.ix_core.specs.Links.{from_place, is_first, is_known, parcel_lost, parcel_to}
use Rattle.ix_core.specs.Meeting.{other_core}
use Rattle.ix_core.specs.Runs.{works_in}
use Rattle.ix_epochs.specs.Playing.{named}

-- ## Lists
joined_same : {X I : Type 0} (f g : X → List I) (xs : List X) → ((x : X) → f x ≡ g x) → joined f xs ≡ joined g xs
joined_same f g [] same = refl
joined_same f g (x ∷ xs) same = ap (λ l. l ++ joined f xs) (same x) ∙ ap (λ l. g x ++ l) (joined_same f g xs same)

joined_none : {X I : Type 0} (f : X → List I) (xs : List X) → ((x : X) → f x ≡ []) → joined f xs ≡ []
joined_none f [] none = refl
joined_none f (x ∷ xs) none = ap (λ l. l ++ joined f xs) (none x) ∙ joined_none f xs none

nil_left : {X : Type 0} (a b : List X) → a ++ b ≡ [] → a ≡ []
nil_left [] b e = refl
nil_left (x ∷ a) b e = cc

nil_right : {X : Type 0} (a b : List X) → a ++ b ≡ [] → b ≡ []
nil_right [] b e = e
nil_right (x ∷ a) b e = cc

one_or_none : {X : Type 0} (b : Bool) (x : X) (xs : List X) → (if b then x ∷ xs else xs) ≡ (if b then x ∷ [] else []) ++ xs
one_or_none true x xs = refl
one_or_none false x xs = refl

-- ## The others of a core, by rising number
others_rise : (c i j : ℕ) → i < j → other_core c i < other_core c j
others_rise c i j lt = grind (arith, nat_tests)

pub other_apart : (c i : ℕ) → (other_core c i == c) ≡ false
other_apart c i = grind (arith, nat_tests)

pub other_most : (c i : ℕ) → other_core c i ≤ i + 1
other_most c i = grind (arith, nat_tests)

-- the place of a core among the others of one
pub lower_place : (c d p : ℕ) → c < d → (other_core d p == c) ≡ (p == c)
lower_place c d p lt = grind (arith, nat_tests)

pub upper_place : (c d p : ℕ) → d < c → (other_core d p == c) ≡ (p == c - 1)
upper_place c d p lt = grind (arith, nat_tests)

pub lower_core : (c d : ℕ) → c < d → other_core d c ≡ c
lower_core c d lt = grind (arith, nat_tests)

pub upper_core : (c d : ℕ) → d < c → other_core d (c - 1) ≡ c
upper_core c d lt = grind (arith, nat_tests)

-- the numbers of all others, from a place on
abbrev pub AreOthers : ℕ → ℕ → List ℕ → Type 0
AreOthers c k [] = Unit {0}
AreOthers c k (x ∷ xs) = (x ≡ other_core c k) × AreOthers c (suc k) xs

first_test : (a b t : ℕ) → a < b → (not (a == t) && b == t) ≡ (b == t)
first_test a b t lt = grind (arith, nat_tests)

pub first_so : (c k : ℕ) (xs : List ℕ) (p t : ℕ) → AreOthers c k xs → p < length xs → is_first xs p t ≡ (other_core c (k + p) == t)
first_so c k [] p t so lt = absurd (omega arith)
first_so c k (x ∷ xs) zero t so lt = ap (λ n. n == t) (so.0 ∙ ap (other_core c) (omega arith))
first_so c k (x ∷ xs) (suc p) t so lt =
    let rest : is_first xs p t ≡ (other_core c (suc k + p) == t) = first_so c (suc k) xs p t so.1 (omega arith) in
    let place : other_core c (suc k + p) ≡ other_core c (k + suc p) = ap (other_core c) (omega arith) in
    ap (λ n. not (n == t) && is_first xs p t) so.0 ∙ ap (λ b. not (other_core c k == t) && b) rest
    ∙ first_test (other_core c k) (other_core c (suc k + p)) t (others_rise c k (suc k + p) (omega arith)) ∙ ap (λ n. n == t) place

pub self_unknown : (c k : ℕ) (xs : List ℕ) → AreOthers c k xs → is_known xs c ≡ false
self_unknown c k [] so = refl
self_unknown c k (x ∷ xs) so =
    let first : (x == c) ≡ false = ap (λ n. n == c) so.0 ∙ other_apart c k in
    rw first (self_unknown c (suc k) xs so.1)

module _ {U : Type 0} where
  -- what goes to a core, and what came from it, by what left and what landed
  abbrev pub parcel_for : ℕ → Parcel U Work → List (Parcel U Work)
  parcel_for d s = if s.to == d then s ∷ [] else []

  abbrev pub parcel_from : ℕ → ℕ → ℕ × Parcel U Work → List (Parcel U Work)
  parcel_from c d x = if other_core d x.0 == c then x.1 ∷ [] else []

  pub gone_so : (d : ℕ) (es : List (Event U Work (List Buffer))) → gone_to d es ≡ joined (parcel_for d) (shipped_in es)
  gone_so d [] = refl
  gone_so d (took x ∷ es) = gone_so d es
  gone_so d (came c s ∷ es) = gone_so d es
  gone_so d (worked max ∷ es) = gone_so d es
  gone_so d (gone s ∷ es) =
      ap (λ (l : List (Parcel U Work)). if s.to == d then s ∷ l else l) (gone_so d es) ∙ one_or_none (s.to == d) s (joined (parcel_for d) (shipped_in es))
  gone_so d (lent h u out v ∷ es) = gone_so d es

  pub named_gone : (c d : ℕ) (es : List (Event U Work (List Buffer))) → gone_to d (map (named c) es) ≡ gone_to d es
  named_gone c d [] = refl
  named_gone c d (took x ∷ es) = named_gone c d es
  named_gone c d (came p s ∷ es) = named_gone c d es
  named_gone c d (worked max ∷ es) = named_gone c d es
  named_gone c d (gone s ∷ es) = ap (λ (l : List (Parcel U Work)). if s.to == d then s ∷ l else l) (named_gone c d es)
  named_gone c d (lent h u out v ∷ es) = named_gone c d es

  pub named_taken : (c : ℕ) (es : List (Event U Work (List Buffer))) → taken_in (map (named c) es) ≡ taken_in es
  named_taken c [] = refl
  named_taken c (took x ∷ es) = ap (λ l. x ∷ l) (named_taken c es)
  named_taken c (came p s ∷ es) = named_taken c es
  named_taken c (worked max ∷ es) = named_taken c es
  named_taken c (gone s ∷ es) = named_taken c es
  named_taken c (lent h u out v ∷ es) = named_taken c es

  pub came_so : (c d : ℕ) (es : List (Event U Work (List Buffer))) → came_from c (map (named d) es) ≡ joined (parcel_from c d) (landed_in es)
  came_so c d [] = refl
  came_so c d (took x ∷ es) = came_so c d es
  came_so c d (came p s ∷ es) =
      ap (λ (l : List (Parcel U Work)). if other_core d p == c then s ∷ l else l) (came_so c d es) ∙ one_or_none (other_core d p == c) s (joined (parcel_from c d) (landed_in es))
  came_so c d (worked max ∷ es) = came_so c d es
  came_so c d (gone s ∷ es) = came_so c d es
  came_so c d (lent h u out v ∷ es) = came_so c d es

  -- ## What one core ships to another, and what comes to it from there
  pub for_place : (c : ℕ) (cores : List ℕ) (p d : ℕ) (outs : List (Parcel U Work)) → AreOthers c 0 cores → p < length cores → other_core c p ≡ d
      → joined (parcel_for d) outs ≡ joined (parcel_to cores p) outs
  for_place c cores p d outs so lt is = joined_same (parcel_for d) (parcel_to cores p) outs (λ s.
      let test : is_first cores p s.to ≡ (d == s.to) = first_so c 0 cores p s.to so lt ∙ ap (λ n. n == s.to) (ap (other_core c) (omega arith) ∙ is) in
      let turned : (s.to == d) ≡ (d == s.to) = grind (arith, nat_tests) in
      ap (λ b. if b then s ∷ [] else []) (turned ∙ sym test))

  pub from_so : (c d q : ℕ) (ins : List (ℕ × Parcel U Work)) → ((p : ℕ) → (other_core d p == c) ≡ (p == q)) → joined (parcel_from c d) ins ≡ joined (from_place q) ins
  from_so c d q ins so = joined_same (parcel_from c d) (from_place q) ins (λ x. ap (λ b. if b then x.1 ∷ [] else []) (so x.0))

  -- none comes from the core itself
  pub none_from_self : (c : ℕ) (ins : List (ℕ × Parcel U Work)) → joined (parcel_from c c) ins ≡ []
  none_from_self c ins = joined_none (parcel_from c c) ins (λ x. ap (λ b. if b then x.1 ∷ [] else []) (other_apart c x.0))

  not_to : (cores : List ℕ) (c : ℕ) (s : Parcel U Work) → is_known cores c ≡ false → parcel_lost cores s ≡ [] → parcel_for c s ≡ []
  not_to cores c s unknown none = by (cases_eq s.to c) where
    by : (s.to ≡ c) ⊎ (s.to ≢ c) → parcel_for c s ≡ []
    by (inl same) =
        let out : is_known cores s.to ≡ false = ap (is_known cores) same ∙ unknown in
        let lost : parcel_lost cores s ≡ s ∷ [] = ap (λ b. if b then [] else s ∷ []) out in
        absurd (let e : s ∷ [] ≡ [] = sym lost ∙ none in cc)
    by (inr apart) = let off : (s.to == c) ≡ false = grind (arith, nat_tests) in ap (λ b. if b then s ∷ [] else []) off

  -- and none goes there, where none was lost
  pub none_to_self : (cores : List ℕ) (c : ℕ) (outs : List (Parcel U Work)) → is_known cores c ≡ false → joined (parcel_lost cores) outs ≡ [] → joined (parcel_for c) outs ≡ []
  none_to_self cores c [] unknown none = refl
  none_to_self cores c (s ∷ outs) unknown none =
      let rest = none_to_self cores c outs unknown (nil_right (parcel_lost cores s) (joined (parcel_lost cores) outs) none) in
      ap (λ l. l ++ joined (parcel_for c) outs) (not_to cores c s unknown (nil_left (parcel_lost cores s) (joined (parcel_lost cores) outs) none)) ∙ rest

  -- ## Where a flow group came from
  pub record CameFrom (c d : ℕ) (es : List (Event U Work (List Buffer))) : Type 0 where
    pub place : ℕ
    pub is : c ≡ other_core d place
    pub some : joined (from_place place) (landed_in es) ≢ []

  came_later : (e : Event U Work (List Buffer)) (c d : ℕ) (es : List (Event U Work (List Buffer))) → CameFrom c d es → CameFrom c d (e ∷ es)
  came_later (took x) c d es so = record { place = so.place; is = so.is; some = so.some }
  came_later (came p s) c d es so =
      record { place = so.place; is = so.is; some = λ none. so.some (nil_right (from_place so.place (p, s)) (joined (from_place so.place) (landed_in es)) none) }
  came_later (worked max) c d es so = record { place = so.place; is = so.is; some = so.some }
  came_later (gone s) c d es so = record { place = so.place; is = so.is; some = so.some }
  came_later (lent h u out v) c d es so = record { place = so.place; is = so.is; some = so.some }

  came_first : (e : Event U Work (List Buffer)) (c d : ℕ) (s : Parcel U Work) (es : List (Event U Work (List Buffer))) → came c s ≡ named d e → CameFrom c d (e ∷ es)
  came_first (took x) c d s es e = absurd (cc)
  came_first (came p t) c d s es e = record {
    place = p;
    is = cc;
    some = λ none.
        let here : (p == p) ≡ true = grind (arith, nat_tests) in
        let one : from_place {U = U} p (p, t) ≡ t ∷ [] = ap (λ b. if b then t ∷ [] else []) here in
        let nothing : from_place {U = U} p (p, t) ≡ [] = nil_left (from_place p (p, t)) (joined (from_place p) (landed_in es)) none in
        absurd (let both : t ∷ [] ≡ [] = sym one ∙ nothing in cc);
  }
  came_first (worked max) c d s es e = absurd (cc)
  came_first (gone t) c d s es e = absurd (cc)
  came_first (lent h u out v) c d s es e = absurd (cc)

  pub where_from : (c d : ℕ) (s : Parcel U Work) (es : List (Event U Work (List Buffer))) → In (came c s) (map (named d) es) → CameFrom c d es
  where_from c d s [] here = absurd here
  where_from c d s (e ∷ es) (inl first) = came_first e c d s es first
  where_from c d s (e ∷ es) (inr later) = came_later e c d es (where_from c d s es later)

  -- ## Batches
  pub in_works : (P : ℕ → Type 0) (c max : ℕ) (es : List (Event U Work (List Buffer))) → In (worked max) (map (named c) es) → All P (works_in es) → P max
  in_works P c max [] here all = absurd here
  in_works P c max (took x ∷ es) (inl first) all = absurd (cc)
  in_works P c max (took x ∷ es) (inr later) all = in_works P c max es later all
  in_works P c max (came p s ∷ es) (inl first) all = absurd (cc)
  in_works P c max (came p s ∷ es) (inr later) all = in_works P c max es later all
  in_works P c max (worked m ∷ es) (inl first) all = let same : m ≡ max = cc in subst P same (All-head P m (works_in es) all)
  in_works P c max (worked m ∷ es) (inr later) all = in_works P c max es later (All-tail P m (works_in es) all)
  in_works P c max (gone s ∷ es) (inl first) all = absurd (cc)
  in_works P c max (gone s ∷ es) (inr later) all = in_works P c max es later all
  in_works P c max (lent h u out v ∷ es) (inl first) all = absurd (cc)
  in_works P c max (lent h u out v ∷ es) (inr later) all = in_works P c max es later all

module _ {U E : Type 0} (counted : Work → Bool) (name : Work → ℕ) (stepped : U → List (ℕ × ℕ)) (advanced : U → E → ℕ → List Work → U → Type 0) (drained : U → List Buffer → U → Type 0) (env : E) where
  named_happened : (c : ℕ) (e : Event U Work (List Buffer)) (x y : View U Work) → Happened counted name stepped advanced drained env x e y → Happened counted name stepped advanced drained env x (named c e) y
  named_happened c (took i) x y h = h
  named_happened c (came p s) x y h = h
  named_happened c (worked max) x y h = h
  named_happened c (gone s) x y h = h
  named_happened c (lent g u out v) x y h = h

  -- a history stays one where the senders are named
  pub named_runs : (c : ℕ) (es : List (Event U Work (List Buffer))) (x y : View U Work) → Runs (Happened counted name stepped advanced drained env) x es y
      → Runs (Happened counted name stepped advanced drained env) x (map (named c) es) y
  named_runs c [] x y so = so
  named_runs c (e ∷ es) x y so = (so.0, named_happened c e x so.0 so.1, named_runs c es so.0 y so.2)
