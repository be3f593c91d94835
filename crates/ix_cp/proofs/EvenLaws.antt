-- The plan of a core that is added goes on until no move is due: each move takes one from what the cores have beyond one place more than
-- the live core with the fewest, and that is at most the number of places.
use Rattle.std.proofs.Common.{◌≡◌, ◌≢◌, ℕ, zero, suc, ◌+◌, ◌-◌, ◌<◌, ◌≤◌, List, [], ◌∷◌, ◌⊎◌, inl, inr, length, get_or, refl, ap, subst, sym, ◌∙◌, arith, Bool, true, false, Option, Some, None}
use Rattle.std.specs.Prelude.{if◌then◌else◌, ◌==◌, nat_lt, slice_index_or, slice_set, option_map, IfOk, Result, Ok, Err, Vec}
use Rattle.std.specs.declared.alloc.Global.{Global}
use Rattle.std.proofs.lemmas.Bool.{cases_eq}
use Rattle.std.proofs.lemmas.Bool.Decides.{nat_tests}
use Rattle.std.proofs.lemmas.List.Quantifiers.{position-Some}
use Rattle.ix_base.specs.declared.id.CoreId.{CoreId}
use Rattle.ix_base.specs.declared.memory.NoMemory.{NoMemory}
use Rattle.ix_cp.specs.declared.plan.PlanMove.{PlanMove}
use Rattle.ix_cp.specs.Plan.{add_plan, busiest, carried, count_on, due, due_between, emptier, evening_moves, fuller, go_on, idlest, lowest_on, move_of, moved, one_on}
use Rattle.ix_cp.proofs.PlanLaws.{count_on-set}

-- the places of the cores below a number
total : List CoreId → ℕ → ℕ
total at zero = 0
total at (suc n) = total at n + count_on at n

ones : CoreId → ℕ → ℕ
ones place zero = 0
ones place (suc n) = ones place n + one_on place n

ones-none : (place : CoreId) (n : ℕ) → n ≤ place.0 → ones place n ≡ 0
unfolding ones
ones-none place zero h = refl
ones-none place (suc n) h = let before : ones place n ≡ 0 = ones-none place n (omega arith) in grind (arith, nat_tests)

ones-bound : (place : CoreId) (n : ℕ) → ones place n ≤ 1
unfolding ones
ones-bound place zero = omega arith
ones-bound place (suc n) =
    let before : ones place n ≤ 1 = ones-bound place n in
    let none : n ≤ place.0 → ones place n ≡ 0 = ones-none place n in
    step (cases_eq place.0 n) before none where
      step : (place.0 ≡ n) ⊎ (place.0 ≢ n) → ones place n ≤ 1 → (n ≤ place.0 → ones place n ≡ 0) → ones place n + one_on place n ≤ 1
      step (inl is) before none = let first : ones place n ≡ 0 = none (omega arith) in grind (arith, nat_tests)
      step (inr other) before none = grind (arith, nat_tests)

total-none : (n : ℕ) → total [] n ≡ 0
unfolding total count_on
total-none zero = refl
total-none (suc n) = omega (arith, total-none n)

total-cons : (place : CoreId) (at : List CoreId) (n : ℕ) → total (place ∷ at) n ≡ ones place n + total at n
unfolding total ones count_on
total-cons place at zero = refl
total-cons place at (suc n) = omega (arith, total-cons place at n)

total-bound : (at : List CoreId) (n : ℕ) → total at n ≤ length at
total-bound [] n = omega (arith, total-none n)
total-bound (place ∷ at) n = omega (arith, total-cons place at n, ones-bound place n, total-bound at n)

-- what the live cores below a number have beyond so many places each
term : Bool → ℕ → ℕ → ℕ
term live count k = if live then count - k else 0

excess : List CoreId → List Bool → ℕ → ℕ → ℕ
excess at live k zero = 0
excess at live k (suc n) = excess at live k n + term (slice_index_or live n false) (count_on at n) k

term-bound : (live : Bool) (count k : ℕ) → term live count k ≤ count
unfolding term
term-bound true count k = omega arith
term-bound false count k = omega arith

term-less : (live : Bool) (count k l : ℕ) → k ≤ l → term live count l ≤ term live count k
unfolding term
term-less true count k l h = omega arith
term-less false count k l h = omega arith

excess-bound : (at : List CoreId) (live : List Bool) (k n : ℕ) → excess at live k n ≤ total at n
unfolding excess total
excess-bound at live k zero = omega arith
excess-bound at live k (suc n) = omega (arith, excess-bound at live k n, term-bound (slice_index_or live n false) (count_on at n) k)

excess-less : (at : List CoreId) (live : List Bool) (k l n : ℕ) → k ≤ l → excess at live l n ≤ excess at live k n
unfolding excess
excess-less at live k l zero h = omega arith
excess-less at live k l (suc n) h =
    omega (arith, excess-less at live k l n h, term-less (slice_index_or live n false) (count_on at n) k l h)

-- the core with the most places, and the one with the fewest
record IsMost (at : List CoreId) (live : List Bool) (n b : ℕ) : Type 0 where
  below : b < n
  is_live : slice_index_or live b false ≡ true
  most : (i : ℕ) → i < n → slice_index_or live i false ≡ true → count_on at i ≤ count_on at b

record IsLeast (at : List CoreId) (live : List Bool) (n b : ℕ) : Type 0 where
  below : b < n
  is_live : slice_index_or live b false ≡ true
  least : (i : ℕ) → i < n → slice_index_or live i false ≡ true → count_on at b ≤ count_on at i

busiest-none : (at : List CoreId) (live : List Bool) (n i : ℕ) → busiest at live n ≡ None → i < n → slice_index_or live i false ≡ true → ⊥
unfolding busiest
busiest-none at live zero i e h is = omega arith
busiest-none at live (suc n) i e h is =
    step (slice_index_or live n false) refl (busiest at live n) e (λ none lower. busiest-none at live n i none lower is) where
      step : (here : Bool) → slice_index_or live n false ≡ here → (best : Option ℕ) → (if here then fuller at best n else best) ≡ None
          → (best ≡ None → i < n → ⊥) → ⊥
      step false dead best e before =
          before e (elim (cases_eq i n) [ inl last ↦ absurd (let clash : slice_index_or live i false ≡ false = rw last dead in cc) | inr other ↦ omega arith ])
      step true dead None e before = cc
      step true dead (Some best) e before = pick (nat_lt (count_on at best) (count_on at n)) e where
        pick : (t : Bool) → (if t then Some n else Some best) ≡ None → ⊥
        pick true e = cc
        pick false e = cc

idlest-none : (at : List CoreId) (live : List Bool) (n i : ℕ) → idlest at live n ≡ None → i < n → slice_index_or live i false ≡ true → ⊥
unfolding idlest
idlest-none at live zero i e h is = omega arith
idlest-none at live (suc n) i e h is =
    step (slice_index_or live n false) refl (idlest at live n) e (λ none lower. idlest-none at live n i none lower is) where
      step : (here : Bool) → slice_index_or live n false ≡ here → (best : Option ℕ) → (if here then emptier at best n else best) ≡ None
          → (best ≡ None → i < n → ⊥) → ⊥
      step false dead best e before =
          before e (elim (cases_eq i n) [ inl last ↦ absurd (let clash : slice_index_or live i false ≡ false = rw last dead in cc) | inr other ↦ omega arith ])
      step true dead None e before = cc
      step true dead (Some best) e before = pick (nat_lt (count_on at n) (count_on at best)) e where
        pick : (t : Bool) → (if t then Some n else Some best) ≡ None → ⊥
        pick true e = cc
        pick false e = cc

-- all below a number and the number itself
upto : (P : ℕ → Type 0) (n : ℕ) → ((i : ℕ) → i < n → P i) → P n → (i : ℕ) → i < suc n → P i
upto P n below here i h = elim (cases_eq i n) [ inl is ↦ rw is here | inr other ↦ below i (omega arith) ]

busiest-is_most : (at : List CoreId) (live : List Bool) (n b : ℕ) → busiest at live n ≡ Some b → IsMost at live n b
unfolding busiest
busiest-is_most at live zero b e = absurd (cc)
busiest-is_most at live (suc n) b e =
    step (slice_index_or live n false) refl (busiest at live n) refl e (λ is. busiest-is_most at live n b is)
    (λ best is. busiest-is_most at live n best is) (λ none i h is. busiest-none at live n i none h is) where
      step : (here : Bool) → slice_index_or live n false ≡ here → (best : Option ℕ) → busiest at live n ≡ best
          → (if here then fuller at best n else best) ≡ Some b → (busiest at live n ≡ Some b → IsMost at live n b)
          → ((c : ℕ) → busiest at live n ≡ Some c → IsMost at live n c)
          → (busiest at live n ≡ None → (i : ℕ) → i < n → slice_index_or live i false ≡ true → ⊥) → IsMost at live (suc n) b
      step false dead best was e same before none =
          let old = same (was ∙ e) in
          record {
            below = omega (arith, old.below);
            is_live = old.is_live;
            most = upto (λ i. slice_index_or live i false ≡ true → count_on at i ≤ count_on at b) n old.most
                (λ is. absurd (let clash : true ≡ false = sym is ∙ dead in cc));
          }
      step true now None was e same before none =
          let is : n ≡ b = cc in
          record {
            below = omega arith;
            is_live = rw (← is) now;
            most = upto (λ i. slice_index_or live i false ≡ true → count_on at i ≤ count_on at b) n (λ i h l. absurd (none was i h l))
                (λ l. rw is (omega arith));
          }
      step true now (Some best) was e same before none = pick (nat_lt (count_on at best) (count_on at n)) refl e where
        old : IsMost at live n best
        old = before best was

        pick : (t : Bool) → nat_lt (count_on at best) (count_on at n) ≡ t → (if t then Some n else Some best) ≡ Some b → IsMost at live (suc n) b
        pick true less e =
            let is : n ≡ b = cc in
            let above : count_on at best < count_on at n = grind (arith, nat_tests) in
            rw (← is) (record {
              below = omega arith;
              is_live = now;
              most = upto (λ i. slice_index_or live i false ≡ true → count_on at i ≤ count_on at n) n
                  (λ i h l. omega (arith, old.most i h l, above)) (λ l. omega arith);
            })
        pick false more e =
            let is : best ≡ b = cc in
            let above : count_on at n ≤ count_on at best = grind (arith, nat_tests) in
            rw (← is) (record {
              below = omega (arith, old.below);
              is_live = old.is_live;
              most = upto (λ i. slice_index_or live i false ≡ true → count_on at i ≤ count_on at best) n old.most (λ l. above);
            })

idlest-is_least : (at : List CoreId) (live : List Bool) (n b : ℕ) → idlest at live n ≡ Some b → IsLeast at live n b
unfolding idlest
idlest-is_least at live zero b e = absurd (cc)
idlest-is_least at live (suc n) b e =
    step (slice_index_or live n false) refl (idlest at live n) refl e (λ is. idlest-is_least at live n b is)
    (λ best is. idlest-is_least at live n best is) (λ none i h is. idlest-none at live n i none h is) where
      step : (here : Bool) → slice_index_or live n false ≡ here → (best : Option ℕ) → idlest at live n ≡ best
          → (if here then emptier at best n else best) ≡ Some b → (idlest at live n ≡ Some b → IsLeast at live n b)
          → ((c : ℕ) → idlest at live n ≡ Some c → IsLeast at live n c)
          → (idlest at live n ≡ None → (i : ℕ) → i < n → slice_index_or live i false ≡ true → ⊥) → IsLeast at live (suc n) b
      step false dead best was e same before none =
          let old = same (was ∙ e) in
          record {
            below = omega (arith, old.below);
            is_live = old.is_live;
            least = upto (λ i. slice_index_or live i false ≡ true → count_on at b ≤ count_on at i) n old.least
                (λ is. absurd (let clash : true ≡ false = sym is ∙ dead in cc));
          }
      step true now None was e same before none =
          let is : n ≡ b = cc in
          record {
            below = omega arith;
            is_live = rw (← is) now;
            least = upto (λ i. slice_index_or live i false ≡ true → count_on at b ≤ count_on at i) n (λ i h l. absurd (none was i h l))
                (λ l. rw is (omega arith));
          }
      step true now (Some best) was e same before none = pick (nat_lt (count_on at n) (count_on at best)) refl e where
        old : IsLeast at live n best
        old = before best was

        pick : (t : Bool) → nat_lt (count_on at n) (count_on at best) ≡ t → (if t then Some n else Some best) ≡ Some b → IsLeast at live (suc n) b
        pick true less e =
            let is : n ≡ b = cc in
            let under : count_on at n < count_on at best = grind (arith, nat_tests) in
            rw (← is) (record {
              below = omega arith;
              is_live = now;
              least = upto (λ i. slice_index_or live i false ≡ true → count_on at n ≤ count_on at i) n
                  (λ i h l. omega (arith, old.least i h l, under)) (λ l. omega arith);
            })
        pick false more e =
            let is : best ≡ b = cc in
            let under : count_on at best ≤ count_on at n = grind (arith, nat_tests) in
            rw (← is) (record {
              below = omega (arith, old.below);
              is_live = old.is_live;
              least = upto (λ i. slice_index_or live i false ≡ true → count_on at best ≤ count_on at i) n old.least (λ l. under);
            })

-- a move that is due, with the cores between which it goes
record IsDue (live : List Bool) (at : List CoreId) (m : PlanMove) (from to place : ℕ) : Type 0 where
  most : busiest at live 8 ≡ Some from
  least : idlest at live 8 ≡ Some to
  apart : count_on at to + 2 ≤ count_on at from
  lowest : lowest_on at from ≡ Some place
  is : move_of place to ≡ m

record Due (live : List Bool) (at : List CoreId) (m : PlanMove) : Type 0 where
  from : ℕ
  to : ℕ
  place : ℕ
  due : IsDue live at m from to place

parts : (live : List Bool) (at : List CoreId) (m : PlanMove) (from to : Option ℕ) → busiest at live 8 ≡ from → idlest at live 8 ≡ to
    → due_between at from to ≡ Some m → Due live at m
parts live at m None to most least e = absurd (cc)
parts live at m (Some from) None most least e = absurd (cc)
parts live at m (Some from) (Some to) most least e =
    pick (nat_lt (count_on at from) (count_on at to + 2)) refl (lowest_on at from) refl e where
      pick : (few : Bool) → nat_lt (count_on at from) (count_on at to + 2) ≡ few → (o : Option ℕ) → lowest_on at from ≡ o
          → (if few then None else option_map (λ (place : ℕ). move_of place to) o) ≡ Some m → Due live at m
      pick true few o low e = absurd (cc)
      pick false few None low e = absurd (cc)
      pick false few (Some place) low e = record {
        from = from;
        to = to;
        place = place;
        due = record { most = most; least = least; apart = grind (arith, nat_tests); lowest = low; is = cc };
      }

due-parts : (live : List Bool) (at : List CoreId) (m : PlanMove) → due live at ≡ Some m → Due live at m
unfolding due
due-parts live at m e = parts live at m (busiest at live 8) (idlest at live 8) refl refl e

lowest_on-is : (at : List CoreId) (core place : ℕ) (d : CoreId) → lowest_on at core ≡ Some place
    → (place < length at) × ((get_or at place d).0 ≡ core)
unfolding lowest_on
lowest_on-is at core place d e =
    let found = position-Some (λ (p : CoreId). p.0 == core) at place d e in
    (found.0, let test : ((get_or at place d).0 == core) ≡ true = found.1 in grind (arith, nat_tests))

-- the numbers of places after a move
counts : (at : List CoreId) (from to place i : ℕ) → lowest_on at from ≡ Some place
    → count_on (slice_set at place (record { 0 = to })) i + (if from == i then 1 else 0) ≡ count_on at i + (if to == i then 1 else 0)
counts at from to place i low =
    let d : CoreId = record { 0 = 0 } in
    let found = lowest_on-is at from place d low in
    ap (λ (c : ℕ). count_on (slice_set at place (record { 0 = to })) i + (if c == i then 1 else 0)) (sym found.1)
    ∙ count_on-set at place i d (record { 0 = to }) found.0

term-moved : (live : Bool) (old new k from to i : ℕ) → new + (if from == i then 1 else 0) ≡ old + (if to == i then 1 else 0)
    → (i ≡ to → old + 1 ≡ k) → (i ≡ from → k < old) → from ≢ to → term live new k ≤ term live old k
unfolding term
term-moved false old new k from to i e low high apart = omega arith
term-moved true old new k from to i e low high apart = step (cases_eq i from) (cases_eq i to) where
  step : (i ≡ from) ⊎ (i ≢ from) → (i ≡ to) ⊎ (i ≢ to) → new - k ≤ old - k
  step (inl f) t = grind (arith, nat_tests)
  step (inr f) (inl t) = let l : old + 1 ≡ k = low t in grind (arith, nat_tests)
  step (inr f) (inr t) = grind (arith, nat_tests)

term-left : (old new k from to : ℕ) → new + (if from == from then 1 else 0) ≡ old + (if to == from then 1 else 0)
    → k < old → from ≢ to → term true new k + 1 ≤ term true old k
unfolding term
term-left old new k from to e high apart = grind (arith, nat_tests)

-- a place of the core `from` goes to the core `to`, which has one place less than a number, and `from` has more than that
record Shift (at : List CoreId) (live : List Bool) (from to place k : ℕ) : Type 0 where
  low : lowest_on at from ≡ Some place
  is_live : slice_index_or live from false ≡ true
  fewest : count_on at to + 1 ≡ k
  most : k < count_on at from
  apart : from ≢ to

excess-kept : (at : List CoreId) (live : List Bool) (from to place k n : ℕ) → Shift at live from to place k → n ≤ from
    → excess (slice_set at place (record { 0 = to })) live k n ≤ excess at live k n
unfolding excess
excess-kept at live from to place k zero s h = omega arith
excess-kept at live from to place k (suc n) s h =
    let here = term-moved (slice_index_or live n false) (count_on at n) (count_on (slice_set at place (record { 0 = to })) n) k from to n
    (counts at from to place n s.low) (λ is. rw is s.fewest) (λ is. rw is s.most) s.apart in
    omega (arith, excess-kept at live from to place k n s (omega arith), here)

excess-fell : (at : List CoreId) (live : List Bool) (from to place k n : ℕ) → Shift at live from to place k → from < n
    → excess (slice_set at place (record { 0 = to })) live k n + 1 ≤ excess at live k n
unfolding excess
excess-fell at live from to place k zero s h = absurd (omega arith)
excess-fell at live from to place k (suc n) s h = step (cases_eq from n) (λ below. excess-fell at live from to place k n s below) where
  new : ℕ
  new = count_on (slice_set at place (record { 0 = to })) n

  step : (from ≡ n) ⊎ (from ≢ n)
      → (from < n → excess (slice_set at place (record { 0 = to })) live k n + 1 ≤ excess at live k n)
      → excess (slice_set at place (record { 0 = to })) live k n + term (slice_index_or live n false) new k + 1
      ≤ excess at live k n + term (slice_index_or live n false) (count_on at n) k
  step (inl is) before =
      let fell : term true new k + 1 ≤ term true (count_on at n) k
      = term-left (count_on at n) new k n to
      (rw (← is) (counts at from to place from s.low)) (rw (← is) s.most) (λ e. s.apart (is ∙ e)) in
      let live_there : slice_index_or live n false ≡ true = rw (← is) s.is_live in
      rw live_there (omega (arith, excess-kept at live from to place k n s (omega arith), fell))
  step (inr other) before =
      omega (
        arith,
        before (omega arith),
        term-moved (slice_index_or live n false) (count_on at n) new k from to n
            (counts at from to place n s.low) (λ is. rw is s.fewest) (λ is. rw is s.most) s.apart,
      )

-- what the cores have beyond one place more than the one with the fewest
slack_of : List CoreId → List Bool → Option ℕ → ℕ
slack_of at live None = 0
slack_of at live (Some least) = excess at live (count_on at least + 1) 8

slack-bound : (at : List CoreId) (live : List Bool) (o : Option ℕ) → slack_of at live o ≤ length at
unfolding slack_of
slack-bound at live None = omega arith
slack-bound at live (Some least) = omega (arith, excess-bound at live (count_on at least + 1) 8, total-bound at 8)

-- no live core has fewer places than the one with the fewest had
no_fewer : (at : List CoreId) (live : List Bool) (from to place i : ℕ) → lowest_on at from ≡ Some place → count_on at to + 2 ≤ count_on at from
    → (slice_index_or live i false ≡ true → count_on at to ≤ count_on at i) → slice_index_or live i false ≡ true
    → count_on at to ≤ count_on (slice_set at place (record { 0 = to })) i
no_fewer at live from to place i low apart least is =
    let moved_counts = counts at from to place i low in
    let before : count_on at to ≤ count_on at i = least is in
    step (cases_eq i from) moved_counts before where
      step : (i ≡ from) ⊎ (i ≢ from)
          → count_on (slice_set at place (record { 0 = to })) i + (if from == i then 1 else 0) ≡ count_on at i + (if to == i then 1 else 0)
          → count_on at to ≤ count_on at i → count_on at to ≤ count_on (slice_set at place (record { 0 = to })) i
      step (inl f) e before =
          let there : count_on at from ≡ count_on at i = ap (count_on at) (sym f) in
          grind (arith, nat_tests)
      step (inr f) e before = grind (arith, nat_tests)

slack-fell : (at : List CoreId) (live : List Bool) (from to place : ℕ) → Shift at live from to place (count_on at to + 1) → from < 8
    → ((i : ℕ) → i < 8 → slice_index_or live i false ≡ true → count_on at to ≤ count_on at i)
    → count_on at to + 2 ≤ count_on at from
    → (o : Option ℕ) → idlest (slice_set at place (record { 0 = to })) live 8 ≡ o
    → slack_of (slice_set at place (record { 0 = to })) live o + 1 ≤ excess at live (count_on at to + 1) 8
unfolding slack_of
slack-fell at live from to place s within least apart None is =
    omega (arith, excess-fell at live from to place (count_on at to + 1) 8 s within)
slack-fell at live from to place s within least apart (Some b) is =
    let next = idlest-is_least (slice_set at place (record { 0 = to })) live 8 b is in
    let more : count_on at to ≤ count_on (slice_set at place (record { 0 = to })) b
    = no_fewer at live from to place b s.low apart (λ l. least b next.below l) next.is_live in
    omega (
      arith,
      excess-fell at live from to place (count_on at to + 1) 8 s within,
      excess-less (slice_set at place (record { 0 = to })) live (count_on at to + 1) (count_on (slice_set at place (record { 0 = to })) b + 1) 8 (omega arith),
    )

slack-falls : (live : List Bool) (at : List CoreId) (m : PlanMove) → due live at ≡ Some m
    → slack_of (moved m at) live (idlest (moved m at) live 8) + 1 ≤ slack_of at live (idlest at live 8)
unfolding slack_of
slack-falls live at m e =
    let d = due-parts live at m e in
    let most = busiest-is_most at live 8 d.from d.due.most in
    let least = idlest-is_least at live 8 d.to d.due.least in
    let shift : Shift at live d.from d.to d.place (count_on at d.to + 1) = record {
      low = d.due.lowest;
      is_live = most.is_live;
      fewest = refl;
      most = omega (arith, d.due.apart);
      apart = λ same. (let c : count_on at d.from ≡ count_on at d.to = ap (count_on at) same in omega (arith, d.due.apart));
    } in
    subst (λ (x : PlanMove). slack_of (moved x at) live (idlest (moved x at) live 8) + 1 ≤ slack_of at live (idlest at live 8)) d.due.is
    (rw d.due.least
    (slack-fell at live d.from d.to d.place shift most.below least.least d.due.apart
    (idlest (slice_set at d.place (record { 0 = d.to })) live 8) refl))

evens : (live : List Bool) (n : ℕ) (at : List CoreId) → slack_of at live (idlest at live 8) ≤ n
    → due live (carried (evening_moves live n at) at) ≡ None
unfolding evening_moves
evens live zero at h = step (due live at) refl where
  step : (o : Option PlanMove) → due live at ≡ o → due live at ≡ None
  step None is = is
  step (Some m) is = absurd (omega (arith, slack-falls live at m is))
evens live (suc n) at h = step (due live at) refl (λ m less. evens live n (moved m at) less) where
  step : (o : Option PlanMove) → due live at ≡ o
      → ((m : PlanMove) → slack_of (moved m at) live (idlest (moved m at) live 8) ≤ n
      → due live (carried (evening_moves live n (moved m at)) (moved m at)) ≡ None)
      → due live (carried (go_on o (λ (m : PlanMove). evening_moves live n (moved m at))) at) ≡ None
  step None is later = is
  step (Some m) is later = later m (omega (arith, slack-falls live at m is))

pub add_plan-evens : (live : List Bool) (core : ℕ) (at : List CoreId) → due (slice_set live core true) (carried (add_plan live core at) at) ≡ None
unfolding add_plan
add_plan-evens live core at =
    evens (slice_set live core true) (length at) at (slack-bound at (slice_set live core true) (idlest at (slice_set live core true) 8))

-- what holds of a plan holds of what was answered
pub Holds-plan : (P : List PlanMove → Type 0) (r : Result (Vec PlanMove Global) NoMemory) (plan : List PlanMove)
    → IfOk r (λ v. v.items ≡ plan) → P plan → IfOk r (λ v. P v.items)
Holds-plan P (Ok v) plan is holds = rw is holds
Holds-plan P (Err e) plan is holds = tt
