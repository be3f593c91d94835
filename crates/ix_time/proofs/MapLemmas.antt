-- The map as a function from keys to ticks.
use Rattle.std.proofs.Common.{◌≡◌, ◌≤◌, ◌==◌, ℕ, Bool, true, false, not, nat_lt, nat_le, List, [], ◌∷◌, ◌++◌, map, filter, sum_by, count_by, Option, Some, None, if◌then◌else◌, refl, ap, sym, ◌∙◌, inl, inr, arith}
use Rattle.std.specs.List.Sorted.{IsPermutation}
use Rattle.std.proofs.lemmas.Bool.{lt-ltb, le-ltb, eq-eqb, ne_eqb, cases_eq, cases_order, cases_Bool}
use Rattle.std.proofs.lemmas.List.Sums.{sum_by-cons}
use Rattle.std.proofs.lemmas.List.Sorted.{IsPermutation-map, sum_by-IsPermutation}
use Rattle.ix_time.specs.Entries.{Above, IsRising, tick_of, put, without, is_due, is_later, timed, later_tick, is_reached}
use Rattle.ix_time.specs.Due.{due_of}
use Rattle.ix_time.proofs.FilterLemmas.{filter-yes, filter-no}

pub Above-filter : (p : (ℕ × ℕ) → Bool) (key : ℕ) (es : List (ℕ × ℕ)) → Above key es → Above key (filter p es)
Above-filter p key [] above = tt
Above-filter p key (e ∷ es) above =
    elim (cases_Bool (p e)) [
      | inl pass ↦ rw pass (above.0, Above-filter p key es above.1)
      | inr stop ↦ rw stop (Above-filter p key es above.1)
    ]

pub tick-same : (q : ℕ) (e : ℕ × ℕ) (es : List (ℕ × ℕ)) → q ≡ e.0 → tick_of q (e ∷ es) ≡ Some e.1
tick-same q e es same = rw (eq-eqb q e.0 same) refl

pub tick-other : (q : ℕ) (e : ℕ × ℕ) (es : List (ℕ × ℕ)) → (q ≡ e.0 → ⊥) → tick_of q (e ∷ es) ≡ tick_of q es
tick-other q e es apart = rw (ne_eqb q e.0 apart) refl

abbrev none : Option ℕ
none = None

-- a filter by keys
tick_of-filter_keys : (test : ℕ → Bool) (q : ℕ) (es : List (ℕ × ℕ)) → tick_of q (filter (λ e. test e.0) es) ≡ (if test q then tick_of q es else None)
tick_of-filter_keys test q [] = sym (same_both (test q))
  where
    same_both : (b : Bool) → (if b then none else none) ≡ none
    same_both true = refl
    same_both false = refl
tick_of-filter_keys test q (e ∷ es) =
    elim (cases_eq q e.0) [
      | inl same ↦ elim (cases_Bool (test q)) [
        | inl pass ↦ (
            let its : test e.0 ≡ true = ap test (sym same) ∙ pass in
            ap (tick_of q) (filter-yes (λ x. test x.0) e es its) ∙ tick-same q e (filter (λ x. test x.0) es) same
            ∙ sym (ap (λ (b : Bool). if b then tick_of q (e ∷ es) else None) pass ∙ tick-same q e es same))
        | inr stop ↦ (
            let its : test e.0 ≡ false = ap test (sym same) ∙ stop in
            ap (tick_of q) (filter-no (λ x. test x.0) e es its) ∙ tick_of-filter_keys test q es
            ∙ ap (λ (b : Bool). if b then tick_of q es else None) stop
            ∙ sym (ap (λ (b : Bool). if b then tick_of q (e ∷ es) else None) stop))
      ]
      | inr apart ↦ elim (cases_Bool (test e.0)) [
        | inl pass ↦ (
            ap (tick_of q) (filter-yes (λ x. test x.0) e es pass) ∙ tick-other q e (filter (λ x. test x.0) es) apart ∙ tick_of-filter_keys test q es
            ∙ sym (ap (λ (o : Option ℕ). if test q then o else None) (tick-other q e es apart)))
        | inr stop ↦ (
            ap (tick_of q) (filter-no (λ x. test x.0) e es stop) ∙ tick_of-filter_keys test q es
            ∙ sym (ap (λ (o : Option ℕ). if test q then o else None) (tick-other q e es apart)))
      ]
    ]

abbrev first_of_two : Option ℕ → Option ℕ → Option ℕ
first_of_two None o = o
first_of_two (Some t) o = Some t

none-behind : (o : Option ℕ) → first_of_two o None ≡ o
none-behind None = refl
none-behind (Some t) = refl

tick_of-append : (q : ℕ) (xs ys : List (ℕ × ℕ)) → tick_of q (xs ++ ys) ≡ first_of_two (tick_of q xs) (tick_of q ys)
tick_of-append q [] ys = refl
tick_of-append q (e ∷ xs) ys =
    elim (cases_eq q e.0) [
      | inl same ↦ tick-same q e (xs ++ ys) same ∙ sym (ap (λ (o : Option ℕ). first_of_two o (tick_of q ys)) (tick-same q e xs same))
      | inr apart ↦ tick-other q e (xs ++ ys) apart ∙ tick_of-append q xs ys ∙ sym (ap (λ (o : Option ℕ). first_of_two o (tick_of q ys)) (tick-other q e xs apart))
    ]

pub tick_of-put : (q key tick : ℕ) (es : List (ℕ × ℕ)) → tick_of q (put key tick es) ≡ (if q == key then Some tick else tick_of q es)
tick_of-put q key tick es =
    let parts = tick_of-append q (filter (λ e. nat_lt e.0 key) es) ((key, tick) ∷ filter (λ e. nat_lt key e.0) es) in
    let low = tick_of-filter_keys (λ k. nat_lt k key) q es in
    let high = tick_of-filter_keys (λ k. nat_lt key k) q es in
    elim (cases_order q key) [
      | inl same ↦ (
          let below : nat_lt q key ≡ false = le-ltb q key (omega arith) in
          let here = tick-same q (key, tick) (filter (λ e. nat_lt key e.0) es) same in
          let equal : (q == key) ≡ true = eq-eqb q key same in
          parts ∙ rw (low, below, here, equal) refl)
      | inr apart ↦ elim apart [
        | inl lt ↦ (
            let below : nat_lt q key ≡ true = lt-ltb q key lt in
            let above : nat_lt key q ≡ false = le-ltb key q (omega arith) in
            let there = tick-other q (key, tick) (filter (λ e. nat_lt key e.0) es) (λ same. absurd (omega arith)) in
            let differ : (q == key) ≡ false = ne_eqb q key (λ same. absurd (omega arith)) in
            parts ∙ rw (low, below, there, high, above, differ) (none-behind (tick_of q es)))
        | inr gt ↦ (
            let below : nat_lt q key ≡ false = le-ltb q key (omega arith) in
            let above : nat_lt key q ≡ true = lt-ltb key q gt in
            let there = tick-other q (key, tick) (filter (λ e. nat_lt key e.0) es) (λ same. absurd (omega arith)) in
            let differ : (q == key) ≡ false = ne_eqb q key (λ same. absurd (omega arith)) in
            parts ∙ rw (low, below, there, high, above, differ) refl)
      ]
    ]

pub tick_of-without : (q key : ℕ) (es : List (ℕ × ℕ)) → tick_of q (without key es) ≡ (if q == key then None else tick_of q es)
tick_of-without q key es = tick_of-filter_keys (λ k. not (k == key)) q es ∙ other_way (q == key) (tick_of q es)
  where
    other_way : (b : Bool) (o : Option ℕ) → (if not b then o else None) ≡ (if b then None else o)
    other_way true o = refl
    other_way false o = refl

pub nowhere : (q low : ℕ) (es : List (ℕ × ℕ)) → Above low es → q ≤ low → tick_of q es ≡ None
nowhere q low [] above le = refl
nowhere q low (e ∷ es) above le = tick-other q e es (λ same. absurd (omega (arith, above.0))) ∙ nowhere q low es above.1 le

pub tick_of-later : (now q : ℕ) (es : List (ℕ × ℕ)) → IsRising es → tick_of q (filter (is_later now) es) ≡ later_tick now (tick_of q es)
tick_of-later now q [] rising = refl
tick_of-later now q (e ∷ es) rising =
    elim (cases_Bool (nat_le e.1 now)) [
      | inl due ↦ (
          let gone = filter-no (is_later now) e es (ap not due) in
          elim (cases_eq q e.0) [
            | inl same ↦ (
                let out = nowhere q e.0 (filter (is_later now) es) (Above-filter (is_later now) e.0 es rising.0) (omega arith) in
                ap (tick_of q) gone ∙ out ∙ sym (ap (later_tick now) (tick-same q e es same) ∙ ap (λ (b : Bool). if b then None else Some e.1) due))
            | inr apart ↦ ap (tick_of q) gone ∙ tick_of-later now q es rising.1 ∙ sym (ap (later_tick now) (tick-other q e es apart))
          ])
      | inr later ↦ (
          let kept = filter-yes (is_later now) e es (ap not later) in
          elim (cases_eq q e.0) [
            | inl same ↦ (
                ap (tick_of q) kept ∙ tick-same q e (filter (is_later now) es) same
                ∙ sym (ap (later_tick now) (tick-same q e es same) ∙ ap (λ (b : Bool). if b then None else Some e.1) later))
            | inr apart ↦ (
                ap (tick_of q) kept ∙ tick-other q e (filter (is_later now) es) apart ∙ tick_of-later now q es rising.1
                ∙ sym (ap (later_tick now) (tick-other q e es apart)))
          ])
    ]

-- how often a key stands among the given ones
abbrev likes : ℕ → ℕ → ℕ
likes q k = if k == q then 1 else 0

none-like : (q low : ℕ) (es : List (ℕ × ℕ)) → Above low es → q ≤ low → sum_by (likes q) (map (λ e. e.0) es) ≡ 0
none-like q low [] above le = refl
none-like q low (e ∷ es) above le =
    let apart : likes q e.0 ≡ 0 = ap (λ (b : Bool). if b then 1 else 0) (ne_eqb e.0 q (λ same. absurd (omega (arith, above.0)))) in
    omega (arith, sum_by-cons (likes q) e.0 (map (λ e. e.0) es), none-like q low es above.1 le)

abbrev one_where : Bool → ℕ
one_where b = if b then 1 else 0

reached : (now q : ℕ) (es : List (ℕ × ℕ)) → IsRising es
    → sum_by (likes q) (map (λ e. e.0) (filter (is_due now) es)) ≡ one_where (is_reached now (tick_of q es))
reached now q [] rising = refl
reached now q (e ∷ es) rising =
    elim (cases_eq q e.0) [
      | inl same ↦ (
          let rest = none-like q e.0 (filter (is_due now) es) (Above-filter (is_due now) e.0 es rising.0) (omega arith) in
          let its : is_reached now (tick_of q (e ∷ es)) ≡ nat_le e.1 now = ap (is_reached now) (tick-same q e es same) in
          let one : likes q e.0 ≡ 1 = ap one_where (eq-eqb e.0 q (sym same)) in
          elim (cases_Bool (nat_le e.1 now)) [
            | inl due ↦ (
                let all : sum_by (likes q) (map (λ e. e.0) (filter (is_due now) (e ∷ es))) ≡ 1 =
                ap (λ l. sum_by (likes q) (map (λ e. e.0) l)) (filter-yes (is_due now) e es due)
                ∙ omega (arith, sum_by-cons (likes q) e.0 (map (λ e. e.0) (filter (is_due now) es))) in
                all ∙ sym (ap one_where (its ∙ due)))
            | inr later ↦ (
                ap (λ l. sum_by (likes q) (map (λ e. e.0) l)) (filter-no (is_due now) e es later) ∙ rest ∙ sym (ap one_where (its ∙ later)))
          ])
      | inr apart ↦ (
          let its : is_reached now (tick_of q (e ∷ es)) ≡ is_reached now (tick_of q es) = ap (is_reached now) (tick-other q e es apart) in
          let none : likes q e.0 ≡ 0 = ap one_where (ne_eqb e.0 q (λ same. apart (sym same))) in
          let more = reached now q es rising.1 in
          elim (cases_Bool (nat_le e.1 now)) [
            | inl due ↦ (
                let all : sum_by (likes q) (map (λ e. e.0) (filter (is_due now) (e ∷ es))) ≡ one_where (is_reached now (tick_of q es)) =
                ap (λ l. sum_by (likes q) (map (λ e. e.0) l)) (filter-yes (is_due now) e es due)
                ∙ omega (arith, sum_by-cons (likes q) e.0 (map (λ e. e.0) (filter (is_due now) es))) in
                all ∙ sym (ap one_where its))
            | inr later ↦ (
                ap (λ l. sum_by (likes q) (map (λ e. e.0) l)) (filter-no (is_due now) e es later) ∙ more ∙ sym (ap one_where its))
          ])
    ]

keys-timed : (es : List (ℕ × ℕ)) → map (λ d. d.1) (map timed es) ≡ map (λ e. e.0) es
keys-timed [] = refl
keys-timed (e ∷ es) = ap (λ l. e.0 ∷ l) (keys-timed es)

pub times-given : (now q : ℕ) (es given : List (ℕ × ℕ)) (keys : List ℕ) → IsRising es → IsPermutation (due_of now es) given → keys ≡ map (λ d. d.1) given
    → count_by (λ k. k == q) keys ≡ (if is_reached now (tick_of q es) then 1 else 0)
times-given now q es given keys rising permuted is =
    ap (sum_by (likes q)) is
    ∙ sum_by-IsPermutation (likes q) (map (λ d. d.1) (due_of now es)) (map (λ d. d.1) given) (IsPermutation-map (λ d. d.1) (due_of now es) given permuted)
    ∙ ap (sum_by (likes q)) (keys-timed (filter (is_due now) es))
    ∙ reached now q es rising
