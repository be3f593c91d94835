-- What a due call reads, moves and changes, step by step.
use Rattle.std.proofs.Common.{◌≡◌, ◌≢◌, ◌<◌, ◌≤◌, ◌+◌, ◌==◌, ℕ, Bool, true, false, nat_lt, List, [], ◌∷◌, ◌++◌, length, filter, take, drop, slice_index_or, slice_set, Option, None, ◌⊎◌, if◌then◌else◌, refl, ap, sym, ◌∙◌, inl, inr, arith, get_or, get_or-set_same, get_or-set_other, drop-cons, add-one}
use Rattle.std.specs.Option.{option_map}
use Rattle.std.proofs.lemmas.Bool.{lt-ltb, le-ltb, lt-leb, le-leb, eq-eqb, ne_eqb, cases_eq, cases_order, cases_Bool}
use Rattle.std.proofs.lemmas.List.{take_more, append-nil}
use Rattle.std.proofs.lemmas.List.Elements.{filter-append}
use Rattle.ix_time.specs.declared.places.Clock.{Clock}
use Rattle.ix_time.specs.declared.standings.Standing.{Standing}
use Rattle.ix_time.specs.Places.{place_of, stands_at, empties}
use Rattle.ix_time.specs.Entries.{is_later}
use Rattle.ix_time.specs.Due.{emptied, renumbered_from, renumbered, without_keys}
use Rattle.ix_time.proofs.WheelLemmas.{Places, slot, standing}

-- ---- one step of each loop

pub emptied-step : (clock : Clock) (now i : ℕ) (places : Places) (x : List (ℕ × ℕ)) → i < length places → x ≡ get_or places i x
    → emptied clock now i (drop i places) ≡ (if empties clock now i then x else []) ++ emptied clock now (i + 1) (drop (i + 1) places)
emptied-step clock now i places x lt is = rw (drop-cons places i x lt, ← is, add-one) refl

pub without_keys-step : (q i : ℕ) (keys : List ℕ) (k : ℕ) (o : Option Standing) → i < length keys → k ≡ get_or keys i 0
    → without_keys q (drop i keys) o ≡ without_keys q (drop (i + 1) keys) (if k == q then None else o)
without_keys-step q i keys k o lt is = rw (drop-cons keys i 0 lt, ← is, add-one) refl

pub renumbered_from-step : (q i : ℕ) (es : List (ℕ × ℕ)) (e : ℕ × ℕ) (o : Option Standing) → i < length es → e ≡ get_or es i e
    → renumbered_from q i (drop i es) o
    ≡ renumbered_from q (i + 1) (drop (i + 1) es) (if e.0 == q then option_map (λ (s : Standing). standing e.1 i) o else o)
renumbered_from-step q i es e o lt is = rw (drop-cons es i e lt, ← is, add-one) refl

pub renumbered-step : (q i : ℕ) (places : Places) (x : List (ℕ × ℕ)) (o : Option Standing) → i < length places → x ≡ get_or places i x
    → renumbered q (drop i places) o ≡ renumbered q (drop (i + 1) places) (renumbered_from q 0 x o)
renumbered-step q i places x o lt is = rw (drop-cons places i x lt, ← is, add-one) refl

-- the later ones of the first entries, at a place
abbrev pub so_far : Clock → ℕ → ℕ → List (ℕ × ℕ) → List (ℕ × ℕ)
so_far next now place es = filter (stands_at next place) (filter (is_later now) es)

with-later : (next : Clock) (now i place : ℕ) (d : ℕ × ℕ) (es : List (ℕ × ℕ)) → i < length es → now < (get_or es i d).1
    → so_far next now place (take (i + 1) es) ≡ so_far next now place (take i es) ++ filter (stands_at next place) (get_or es i d ∷ [])
with-later next now i place d es lt after =
    let one : filter (is_later now) (get_or es i d ∷ []) ≡ get_or es i d ∷ [] = rw (lt-leb (get_or es i d).1 now after) refl in
    ap (so_far next now place) (take_more es i d lt)
    ∙ ap (filter (stands_at next place)) (filter-append (is_later now) (take i es) (get_or es i d ∷ []) ∙ ap (λ l. filter (is_later now) (take i es) ++ l) one)
    ∙ filter-append (stands_at next place) (filter (is_later now) (take i es)) (get_or es i d ∷ [])

pub moved-skip : (next : Clock) (now i place : ℕ) (d : ℕ × ℕ) (es : List (ℕ × ℕ)) → i < length es → (get_or es i d).1 ≤ now
    → so_far next now place (take i es) ≡ so_far next now place (take (i + 1) es)
moved-skip next now i place d es lt due =
    let none : filter (is_later now) (get_or es i d ∷ []) ≡ [] = rw (le-leb (get_or es i d).1 now due) refl in
    sym (ap (so_far next now place) (take_more es i d lt)
    ∙ ap (filter (stands_at next place)) (filter-append (is_later now) (take i es) (get_or es i d ∷ [])
    ∙ ap (λ l. filter (is_later now) (take i es) ++ l) none ∙ append-nil (filter (is_later now) (take i es))))

pub moved-more : (next : Clock) (now i : ℕ) (d : ℕ × ℕ) (es : List (ℕ × ℕ)) (places new : Places) → i < length es
    → ((p : ℕ) → slice_index_or places p [] ≡ so_far next now p (take i es)) → now < (get_or es i d).1 → place_of next (get_or es i d).1 < length places
    → new ≡ slice_set places (place_of next (get_or es i d).1) (slot places (place_of next (get_or es i d).1) ++ ((get_or es i d).0, (get_or es i d).1) ∷ [])
    → (p : ℕ) → slice_index_or new p [] ≡ so_far next now p (take (i + 1) es)
moved-more next now i d es places new lt each after fits puts place =
    elim (cases_eq place (place_of next (get_or es i d).1)) [
      | inl same ↦ (
          let one : filter (stands_at next (place_of next (get_or es i d).1)) (get_or es i d ∷ []) ≡ get_or es i d ∷ [] =
          rw (eq-eqb (place_of next (get_or es i d).1) (place_of next (get_or es i d).1) refl) refl in
          rw (same, puts, get_or-set_same, each (place_of next (get_or es i d).1))
          (sym (with-later next now i (place_of next (get_or es i d).1) d es lt after ∙ ap (λ l. so_far next now (place_of next (get_or es i d).1) (take i es) ++ l) one)))
      | inr apart ↦ (
          let none : filter (stands_at next place) (get_or es i d ∷ []) ≡ [] = rw (ne_eqb (place_of next (get_or es i d).1) place (λ e. apart (sym e))) refl in
          rw (puts, get_or-set_other, each place)
          (sym (with-later next now i place d es lt after ∙ ap (λ l. so_far next now place (take i es) ++ l) none ∙ append-nil (so_far next now place (take i es)))))
    ]

-- what the places hold once those from the n-th one on were replaced
abbrev pub replaced_from : Clock → ℕ → ℕ → Places → Places → ℕ → List (ℕ × ℕ)
replaced_from clock now n old new p = if nat_lt p n then slot old p else if empties clock now p then slot new p else slot old p

from-below : (clock : Clock) (now n : ℕ) (old new : Places) (p : ℕ) → p < n → replaced_from clock now n old new p ≡ slot old p
from-below clock now n old new p lt = rw (lt-ltb p n lt) refl

from-on : (clock : Clock) (now n m : ℕ) (old new : Places) (p : ℕ) → n ≤ p → m ≤ p → replaced_from clock now n old new p ≡ replaced_from clock now m old new p
from-on clock now n m old new p le le' = rw (le-ltb p n le, le-ltb p m le') refl

from-emptied : (clock : Clock) (now n : ℕ) (old new : Places) → empties clock now n ≡ true → replaced_from clock now n old new n ≡ slot new n
from-emptied clock now n old new is = rw (le-ltb n n (omega arith), is) refl

from-kept : (clock : Clock) (now n : ℕ) (old new : Places) → empties clock now n ≡ false → replaced_from clock now n old new n ≡ slot old n
from-kept clock now n old new is = rw (le-ltb n n (omega arith), is) refl

pub replace-put : (clock : Clock) (now n : ℕ) (old new places : Places) (x : List (ℕ × ℕ)) → n < length places → empties clock now n ≡ true → x ≡ slot new n
    → ((p : ℕ) → slice_index_or places p [] ≡ replaced_from clock now (n + 1) old new p)
    → (p : ℕ) → slice_index_or (slice_set places n x) p [] ≡ replaced_from clock now n old new p
replace-put clock now n old new places x within is its was p =
    elim (cases_order p n) [
      | inl same ↦ rw (same, get_or-set_same) (its ∙ sym (from-emptied clock now n old new is))
      | inr apart ↦ elim apart [
        | inl lt ↦ (
            let other : p ≢ n = λ e. absurd (omega arith) in
            rw get_or-set_other (was p ∙ from-below clock now (n + 1) old new p (omega arith) ∙ sym (from-below clock now n old new p lt)))
        | inr gt ↦ (
            let other : p ≢ n = λ e. absurd (omega arith) in
            rw get_or-set_other (was p ∙ from-on clock now (n + 1) n old new p (omega arith) (omega arith)))
      ]
    ]

-- the place stays as it is where it is not emptied, or where nothing was there and nothing comes
pub replace-keep : (clock : Clock) (now n : ℕ) (old new places : Places) → (empties clock now n ≡ false) ⊎ (slot new n ≡ slot places n)
    → ((p : ℕ) → slice_index_or places p [] ≡ replaced_from clock now (n + 1) old new p)
    → (p : ℕ) → slice_index_or places p [] ≡ replaced_from clock now n old new p
replace-keep clock now n old new places why was p =
    elim (cases_order p n) [
      | inl same ↦ (
          let here : slot places p ≡ slot old n = was p ∙ from-below clock now (n + 1) old new p (omega arith) ∙ ap (slot old) same in
          elim (cases_Bool (empties clock now n)) [
            | inl is ↦ elim why [
              | inl isnt ↦ absurd (true_false (empties clock now n) is isnt)
              | inr both ↦ ap (slot places) same ∙ sym both ∙ sym (from-emptied clock now n old new is) ∙ ap (λ (k : ℕ). replaced_from clock now n old new k) (sym same)
            ]
            | inr isnt ↦ here ∙ sym (from-kept clock now n old new isnt) ∙ ap (λ (k : ℕ). replaced_from clock now n old new k) (sym same)
          ])
      | inr apart ↦ elim apart [
        | inl lt ↦ was p ∙ from-below clock now (n + 1) old new p (omega arith) ∙ sym (from-below clock now n old new p lt)
        | inr gt ↦ was p ∙ from-on clock now (n + 1) n old new p (omega arith) (omega arith)
      ]
    ]
  where
    true_false : (b : Bool) → b ≡ true → b ≡ false → ⊥
    true_false b is isnt = let impossible : true ≡ false = sym is ∙ isnt in cc
