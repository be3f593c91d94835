-- The map's words over lists of entries.
use Rattle.std.proofs.Common.{◌≡◌, ◌<◌, ◌≤◌, ◌==◌, ℕ, Bool, true, false, nat_lt, List, [], ◌∷◌, ◌++◌, filter, Option, Some, if◌then◌else◌, refl, ap, sym, ◌∙◌, inl, inr, arith}
use Rattle.std.specs.Option.{option_map}
use Rattle.std.proofs.lemmas.Bool.{lt-ltb, le-ltb, cases_order, cases_eq, cases_Bool}
use Rattle.ix_time.specs.declared.standings.Standing.{Standing}
use Rattle.ix_time.specs.Entries.{Above, IsRising, tick_of, put}
use Rattle.ix_time.specs.Standings.{standing_of, tick_in, in_order}
use Rattle.ix_time.proofs.MapLemmas.{tick-same, tick-other, tick_of-put, nowhere, Above-filter}

pub IsRising-filter : (p : (ℕ × ℕ) → Bool) (es : List (ℕ × ℕ)) → IsRising es → IsRising (filter p es)
IsRising-filter p [] rising = tt
IsRising-filter p (e ∷ es) rising =
    elim (cases_Bool (p e)) [
      | inl pass ↦ rw pass (Above-filter p e.0 es rising.0, IsRising-filter p es rising.1)
      | inr stop ↦ rw stop (IsRising-filter p es rising.1)
    ]

-- of entries above a key none is below it, and each is above it
none_below : (key : ℕ) (es : List (ℕ × ℕ)) (low : ℕ) → Above low es → key ≤ low → filter (λ e. nat_lt e.0 key) es ≡ []
none_below key [] low above le = refl
none_below key (e ∷ es) low above le = rw (le-ltb e.0 key (omega (arith, above.0))) (none_below key es low above.1 le)

all_above : (key : ℕ) (es : List (ℕ × ℕ)) (low : ℕ) → Above low es → key ≤ low → filter (λ e. nat_lt key e.0) es ≡ es
all_above key [] low above le = refl
all_above key (e ∷ es) low above le = rw (lt-ltb key e.0 (omega (arith, above.0))) (ap (λ l. e ∷ l) (all_above key es low above.1 le))

Above-put : (low key tick : ℕ) (es : List (ℕ × ℕ)) → low < key → Above low es → Above low (put key tick es)
Above-put low key tick es lt above = Above-append (filter (λ e. nat_lt e.0 key) es) (Above-filter (λ e. nat_lt e.0 key) low es above)
  where
    Above-append : (xs : List (ℕ × ℕ)) → Above low xs → Above low (xs ++ (key, tick) ∷ filter (λ e. nat_lt key e.0) es)
    Above-append [] front = (lt, Above-filter (λ e. nat_lt key e.0) low es above)
    Above-append (x ∷ xs) front = (front.0, Above-append xs front.1)

pub IsRising-put : (key tick : ℕ) (es : List (ℕ × ℕ)) → IsRising es → IsRising (put key tick es)
IsRising-put key tick [] rising = (tt, tt)
IsRising-put key tick (e ∷ es) rising =
    elim (cases_order key e.0) [
      | inl same ↦ (
          let below : nat_lt key e.0 ≡ false = le-ltb key e.0 (omega arith) in
          let above : nat_lt e.0 key ≡ false = le-ltb e.0 key (omega arith) in
          let none = none_below key es e.0 rising.0 (omega arith) in
          let all = all_above key es e.0 rising.0 (omega arith) in
          let higher : Above key es = Above-lower key e.0 es (omega arith) rising.0 in
          rw (below, above, none, all) (higher, rising.1))
      | inr apart ↦ elim apart [
        | inl lt ↦ (
            let below : nat_lt key e.0 ≡ true = lt-ltb key e.0 lt in
            let above : nat_lt e.0 key ≡ false = le-ltb e.0 key (omega arith) in
            let none = none_below key es e.0 rising.0 (omega arith) in
            let all = all_above key es e.0 rising.0 (omega arith) in
            let higher : Above key es = Above-lower key e.0 es (omega arith) rising.0 in
            rw (below, above, none, all) ((lt, higher), rising))
        | inr gt ↦ (
            let below : nat_lt key e.0 ≡ false = le-ltb key e.0 (omega arith) in
            let above : nat_lt e.0 key ≡ true = lt-ltb e.0 key gt in
            rw (below, above) (Above-put e.0 key tick es gt rising.0, IsRising-put key tick es rising.1))
      ]
    ]
  where
    Above-lower : (low high : ℕ) (xs : List (ℕ × ℕ)) → low ≤ high → Above high xs → Above low xs
    Above-lower low high [] le above = tt
    Above-lower low high (x ∷ xs) le above = (omega (arith, above.0), Above-lower low high xs le above.1)

pub IsRising-in_order : (standings : List (ℕ × Standing)) → IsRising (in_order standings)
IsRising-in_order [] = tt
IsRising-in_order (e ∷ es) = IsRising-put e.0 e.1.tick (in_order es) (IsRising-in_order es)

pub tick_of-in_order : (q : ℕ) (standings : List (ℕ × Standing)) → tick_of q (in_order standings) ≡ tick_in q standings
tick_of-in_order q [] = refl
tick_of-in_order q (e ∷ es) =
    tick_of-put q e.0 e.1.tick (in_order es) ∙ ap (λ (o : Option ℕ). if q == e.0 then Some e.1.tick else o) (tick_of-in_order q es)
    ∙ sym (through (q == e.0) e.1 (standing_of q es))
  where
    through : (b : Bool) (s : Standing) (o : Option Standing)
        → option_map (λ (s : Standing). s.tick) (if b then Some s else o) ≡ (if b then Some s.tick else option_map (λ (s : Standing). s.tick) o)
    through true s o = refl
    through false s o = refl

-- rising entries are those that their ticks make them
pub rising-same : (xs ys : List (ℕ × ℕ)) → IsRising xs → IsRising ys → ((q : ℕ) → tick_of q xs ≡ tick_of q ys) → xs ≡ ys
rising-same [] [] left right same = refl
rising-same [] (y ∷ ys) left right same =
    let at = same y.0 in
    let found = tick-same y.0 y ys refl in
    cc
rising-same (x ∷ xs) [] left right same =
    let at = same x.0 in
    let found = tick-same x.0 x xs refl in
    cc
rising-same (x ∷ xs) (y ∷ ys) left right same =
    elim (cases_order x.0 y.0) [
      | inl key ↦ (
          let at = same x.0 in
          let mine = tick-same x.0 x xs refl in
          let its = tick-same x.0 y ys key in
          let tick : x.1 ≡ y.1 = cc in
          let pair : x ≡ y = ap (λ (k : ℕ). (k, x.1)) key ∙ ap (λ (t : ℕ). (y.0, t)) tick in
          let rest = rising-same xs ys left.1 right.1 (λ q. agree q key) in
          ap (λ (e : ℕ × ℕ). e ∷ xs) pair ∙ ap (λ l. y ∷ l) rest)
      | inr apart ↦ elim apart [
        | inl lt ↦ (
            let at = same x.0 in
            let mine = tick-same x.0 x xs refl in
            let others = tick-other x.0 y ys (λ e. absurd (omega arith)) in
            let none = nowhere x.0 y.0 ys right.0 (omega arith) in
            cc)
        | inr gt ↦ (
            let at = same y.0 in
            let its = tick-same y.0 y ys refl in
            let others = tick-other y.0 x xs (λ e. absurd (omega arith)) in
            let none = nowhere y.0 x.0 xs left.0 (omega arith) in
            cc)
      ]
    ]
  where
    agree : (q : ℕ) → x.0 ≡ y.0 → tick_of q xs ≡ tick_of q ys
    agree q key =
        elim (cases_eq q x.0) [
          | inl here ↦ nowhere q x.0 xs left.0 (omega arith) ∙ sym (nowhere q y.0 ys right.0 (omega arith))
          | inr other ↦ sym (tick-other q x xs other) ∙ same q ∙ tick-other q y ys (λ e. other (omega arith))
        ]
