-- A due call: what it gives, what it leaves, and the rule of places after it.
use Rattle.std.proofs.Common.{◌≡◌, ◌≢◌, ◌<◌, ◌≤◌, ◌+◌, ◌==◌, ℕ, zero, suc, Bool, true, false, not, nat_le, List, [], ◌∷◌, length, filter, count_by, slice_index_or, Option, Some, None, ◌⊎◌, if◌then◌else◌, refl, ap, sym, subst, ◌∙◌, inl, inr, arith, max}
use Rattle.std.specs.List.{slice_get}
use Rattle.std.specs.Option.{option_map}
use Rattle.std.specs.List.Sorted.{IsPermutation}
use Rattle.std.proofs.lemmas.Bool.{le-leb, lt-leb, leb-true, leb-false, not-true, eq-eqb, eqb-true, ne_eqb, cases_eq, cases_lt, cases_Bool}
use Rattle.std.proofs.lemmas.Bool.Decides.{nat_tests}
use Rattle.std.proofs.lemmas.Option.{same_Some}
use Rattle.std.proofs.lemmas.List.Sums.{sum_by-cons}
use Rattle.std.proofs.lemmas.List.Sorted.{IsPermutation-refl, IsPermutation-map, IsPermutation-trans}
use Rattle.ix_time.specs.declared.places.Clock.{Clock}
use Rattle.ix_time.specs.declared.standings.Standing.{Standing}
use Rattle.ix_time.specs.Places.{place_of, stands_at, empties}
use Rattle.ix_time.specs.Entries.{tick_of, is_due, is_later, later_tick, is_reached, timed}
use Rattle.ix_time.specs.Standings.{standing_of, tick_in, in_order}
use Rattle.ix_time.specs.Slots.{entry_at}
use Rattle.ix_time.specs.Wheel.{StandsThere, KeepsPlaces}
use Rattle.ix_time.specs.Due.{GivesDue, due_of, emptied, renumbered_from, renumbered, without_keys}
use Rattle.ix_time.proofs.PlaceLemmas.{Advances, Remains, place-stays, place-moves}
use Rattle.ix_time.proofs.EntryLemmas.{IsRising-in_order, tick_of-in_order}
use Rattle.ix_time.proofs.MapLemmas.{times-given}
use Rattle.ix_time.proofs.MemberLemmas.{In, In-left, In-right, In-cases, In-filter, In-passed, Passed, In-get, get-In, Distinct, Distinct-append, Distinct-filter, Distinct-rising, Distinct-index, tick-In, In-tick, same-entries}
use Rattle.ix_time.proofs.ViewLemmas.{LeftLater}
use Rattle.ix_time.proofs.WheelLemmas.{Places, standing}
use Rattle.ix_time.proofs.DueLemmas.{so_far}

nothing-some : {A : Type 0} {x : A} {o : Option A} → o ≡ None → o ≡ Some x → ⊥
nothing-some none some = cc

same-standing : (s t : Standing) → Some s ≡ Some t → s ≡ t
same-standing s t e = cc

both-ways : (b : Bool) → b ≡ true → b ≡ false → ⊥
both-ways b is isnt = let impossible : true ≡ false = sym is ∙ isnt in cc

tick : Option Standing → Option ℕ
tick o = option_map (λ (s : Standing). s.tick) o

-- ---- the entries of the places that are emptied

-- each entry of these places, which are counted from the first one's number on, is that of a key that stands there
abbrev Named : Clock → List (ℕ × Standing) → ℕ → Places → Type 0
Named clock standings first places = (p i : ℕ) (e : ℕ × ℕ) → entry_at places p i ≡ Some e → StandsThere clock standings (first + p) i e

named-head : (clock : Clock) (standings : List (ℕ × Standing)) (first : ℕ) (xs : List (ℕ × ℕ)) (places : Places) → Named clock standings first (xs ∷ places)
    → (i : ℕ) (e : ℕ × ℕ) → slice_get xs i ≡ Some e → StandsThere clock standings first i e
named-head clock standings first xs places named i e at =
    let there = named zero i e at in
    record { standing = there.standing; named = there.named ∙ omega arith }

named-tail : (clock : Clock) (standings : List (ℕ × Standing)) (first : ℕ) (xs : List (ℕ × ℕ)) (places : Places) → Named clock standings first (xs ∷ places)
    → Named clock standings (suc first) places
named-tail clock standings first xs places named p i e at =
    let there = named (suc p) i e at in
    record { standing = there.standing; named = there.named ∙ omega arith }

-- what an emptied entry is
pub record Gone (clock : Clock) (now : ℕ) (standings : List (ℕ × Standing)) (e : ℕ × ℕ) : Type 0 where
  pub index : ℕ
  pub standing-is : standing_of e.0 standings ≡ Some (standing e.1 index)
  pub gone : empties clock now (place_of clock e.1) ≡ true

gone-slot : (clock : Clock) (now : ℕ) (standings : List (ℕ × Standing)) (first : ℕ) (xs : List (ℕ × ℕ)) → empties clock now first ≡ true
    → ((i : ℕ) (e : ℕ × ℕ) → slice_get xs i ≡ Some e → StandsThere clock standings first i e) → (e : ℕ × ℕ) → In e xs → Gone clock now standings e
gone-slot clock now standings first xs is named e here =
    let at = In-get e xs here in
    let there = named at.0 e at.1 in
    record { index = at.0; standing-is = there.standing; gone = ap (empties clock now) there.named ∙ is }

gone-all : (clock : Clock) (now : ℕ) (standings : List (ℕ × Standing)) (first : ℕ) (places : Places) → Named clock standings first places
    → (e : ℕ × ℕ) → In e (emptied clock now first places) → Gone clock now standings e
gone-all clock now standings first [] named e here = absurd here
gone-all clock now standings first (xs ∷ places) named e here =
    elim (In-cases e (if empties clock now first then xs else []) (emptied clock now (suc first) places) here) [
      | inl mine ↦ elim (cases_Bool (empties clock now first)) [
        | inl is ↦ (
            let its : In e xs = rw is at mine in
            gone-slot clock now standings first xs is (named-head clock standings first xs places named) e its)
        | inr isnt ↦ (
            let its : In e [] = rw isnt at mine in
            absurd its)
      ]
      | inr rest ↦ gone-all clock now standings (suc first) places (named-tail clock standings first xs places named) e rest
    ]

-- each entry of an emptied place is among them
all-emptied : (clock : Clock) (now first : ℕ) (places : Places) (p i : ℕ) (e : ℕ × ℕ) → entry_at places p i ≡ Some e → empties clock now (first + p) ≡ true
    → In e (emptied clock now first places)
all-emptied clock now first [] p i e at is = absurd (nothing-some refl at)
all-emptied clock now first (xs ∷ places) zero i e at is =
    let here : first + zero ≡ first = omega arith in
    let its : empties clock now first ≡ true = ap (empties clock now) (sym here) ∙ is in
    In-left e (if empties clock now first then xs else []) (emptied clock now (suc first) places) (rw its (get-In e xs i at))
all-emptied clock now first (xs ∷ places) (suc p) i e at is =
    let on : first + suc p ≡ suc first + p = omega arith in
    In-right e (if empties clock now first then xs else []) (emptied clock now (suc first) places)
    (all-emptied clock now (suc first) places p i e at (ap (empties clock now) (sym on) ∙ is))

-- a key stands once among the entries of a place, which are counted from the first one's index on
slot-once : (clock : Clock) (standings : List (ℕ × Standing)) (place first : ℕ) (xs : List (ℕ × ℕ))
    → ((i : ℕ) (e : ℕ × ℕ) → slice_get xs i ≡ Some e → StandsThere clock standings place (first + i) e) → Distinct xs
slot-once clock standings place first [] named = tt
slot-once clock standings place first (x ∷ xs) named = (
  λ e here same.
      let at = In-get e xs here in
      let mine = named zero x refl in
      let its = named (suc at.0) e at.1 in
      let one : standing e.1 (first + suc at.0) ≡ standing x.1 (first + zero) =
      same-standing (standing e.1 (first + suc at.0)) (standing x.1 (first + zero)) (sym its.standing ∙ ap (λ (k : ℕ). standing_of k standings) same ∙ mine.standing) in
      let index : first + suc at.0 ≡ first + zero = ap (λ (s : Standing). s.index) one in
      absurd (omega arith),
  slot-once clock standings place (suc first) xs (λ i e at. moved i e (named (suc i) e at)),
)
  where
    moved : (i : ℕ) (e : ℕ × ℕ) → StandsThere clock standings place (first + suc i) e → StandsThere clock standings place (suc first + i) e
    moved i e there =
        let on : first + suc i ≡ suc first + i = omega arith in
        record { standing = there.standing ∙ ap (λ (k : ℕ). Some (standing e.1 k)) on; named = there.named }

-- an entry of the later places stands at one of them
later-place : (clock : Clock) (now : ℕ) (standings : List (ℕ × Standing)) (first : ℕ) (places : Places) → Named clock standings first places
    → (e : ℕ × ℕ) → In e (emptied clock now first places) → first ≤ place_of clock e.1
later-place clock now standings first [] named e here = absurd here
later-place clock now standings first (xs ∷ places) named e here =
    elim (In-cases e (if empties clock now first then xs else []) (emptied clock now (suc first) places) here) [
      | inl mine ↦ elim (cases_Bool (empties clock now first)) [
        | inl is ↦ (
            let its : In e xs = rw is at mine in
            let at = In-get e xs its in
            let there = named-head clock standings first xs places named at.0 e at.1 in
            omega (arith, there.named))
        | inr isnt ↦ (
            let its : In e [] = rw isnt at mine in
            absurd its)
      ]
      | inr rest ↦ (
          let further = later-place clock now standings (suc first) places (named-tail clock standings first xs places named) e rest in
          omega arith)
    ]

emptied-once : (clock : Clock) (now : ℕ) (standings : List (ℕ × Standing)) (first : ℕ) (places : Places) → Named clock standings first places
    → Distinct (emptied clock now first places)
emptied-once clock now standings first [] named = tt
emptied-once clock now standings first (xs ∷ places) named =
    let head = named-head clock standings first xs places named in
    let rest = emptied-once clock now standings (suc first) places (named-tail clock standings first xs places named) in
    elim (cases_Bool (empties clock now first)) [
      | inl is ↦ (
          let mine : Distinct xs = slot-once clock standings first zero xs (λ i e at. from_zero i e (head i e at)) in
          rw is
          (Distinct-append xs (emptied clock now (suc first) places) mine rest
          (λ e f here there same.
          let at = In-get e xs here in
          let near = head at.0 e at.1 in
          let far = later-place clock now standings (suc first) places (named-tail clock standings first xs places named) f there in
          let gone : Gone clock now standings f = gone-all clock now standings (suc first) places (named-tail clock standings first xs places named) f there in
          let one : standing f.1 gone.index ≡ standing e.1 at.0 =
          same-standing (standing f.1 gone.index) (standing e.1 at.0) (sym gone.standing-is ∙ ap (λ (k : ℕ). standing_of k standings) same ∙ near.standing) in
          let place : place_of clock f.1 ≡ place_of clock e.1 = ap (λ (s : Standing). place_of clock s.tick) one in
          absurd (omega (arith, near.named)))))
      | inr isnt ↦ rw isnt rest
    ]
  where
    from_zero : (i : ℕ) (e : ℕ × ℕ) → StandsThere clock standings first i e → StandsThere clock standings first (zero + i) e
    from_zero i e there =
        let on : i ≡ zero + i = omega arith in
        record { standing = there.standing ∙ ap (λ (k : ℕ). Some (standing e.1 k)) on; named = there.named }

-- all that a due call reads
pub record Read (clock : Clock) (now : ℕ) (standings : List (ℕ × Standing)) (places : Places) (entries : List (ℕ × ℕ)) : Type 0 where
  pub gone : (e : ℕ × ℕ) → In e entries → Gone clock now standings e
  pub all : (q : ℕ) (s : Standing) → standing_of q standings ≡ Some s → empties clock now (place_of clock s.tick) ≡ true → In (q, s.tick) entries
  pub once : Distinct entries

pub read-from : (clock : Clock) (now : ℕ) (standings : List (ℕ × Standing)) (places : Places) (entries : List (ℕ × ℕ)) → KeepsPlaces clock standings places
    → entries ≡ emptied clock now 0 places → Read clock now standings places entries
read-from clock now standings places entries kept is =
    let named : Named clock standings 0 places = λ p i e at. first (kept.only p i e at) in
    record {
      gone = λ e here. gone-all clock now standings 0 places named e (rw is at here);
      all = λ q s found gone.
          let on : 0 + place_of clock s.tick ≡ place_of clock s.tick = omega arith in
          rw is (all-emptied clock now 0 places (place_of clock s.tick) s.index (q, s.tick) (kept.stands q s found) (ap (empties clock now) on ∙ gone));
      once = rw is (emptied-once clock now standings 0 places named);
    }
  where
    first : {p i : ℕ} {e : ℕ × ℕ} → StandsThere clock standings p i e → StandsThere clock standings (0 + p) i e
    first {p = p} there =
        let on : p ≡ 0 + p = omega arith in
        record { standing = there.standing; named = there.named ∙ on }

-- ---- what is given

some-standing : (o : Option Standing) (t : ℕ) → option_map (λ (s : Standing). s.tick) o ≡ Some t → (s : Standing) × (o ≡ Some s) × (s.tick ≡ t)
some-standing None t is = absurd (nothing-some refl is)
some-standing (Some s) t is = (s, refl, same_Some s.tick t is)

same-options : (o p : Option ℕ) → ((t : ℕ) → o ≡ Some t → p ≡ Some t) → ((t : ℕ) → p ≡ Some t → o ≡ Some t) → o ≡ p
same-options None None there back = refl
same-options None (Some t) there back = back t refl
same-options (Some t) p there back = sym (there t refl)

-- a key that is due stands at a place that is emptied
due-emptied : (clock : Clock) (now : ℕ) (next : Clock) (t : ℕ) → Advances clock now next → t ≤ now → empties clock now (place_of clock t) ≡ true
due-emptied clock now next t advances due =
    elim (cases_Bool (empties clock now (place_of clock t))) [
      | inl is ↦ is
      | inr isnt ↦ (
          let remains : Remains clock now next t = place-stays clock now next t advances isnt in
          absurd (omega (arith, remains.after)))
    ]

due-ticks : (clock : Clock) (now : ℕ) (next : Clock) (standings : List (ℕ × Standing)) (places : Places) (entries : List (ℕ × ℕ))
    → Read clock now standings places entries → Advances clock now next → (q : ℕ)
    → tick_of q (filter (is_due now) (in_order standings)) ≡ tick_of q (filter (is_due now) entries)
due-ticks clock now next standings places entries read advances q =
    let view : List (ℕ × ℕ) = in_order standings in
    let rising : Distinct (in_order standings) = Distinct-rising (in_order standings) (IsRising-in_order standings) in
    same-options (tick_of q (filter (is_due now) view)) (tick_of q (filter (is_due now) entries))
    (λ t is.
    let passed : Passed (is_due now) (q, t) view = In-passed (is_due now) (q, t) view (tick-In q t (filter (is_due now) view) is) in
    let due : t ≤ now = leb-true t now passed.passes in
    let found = some-standing (standing_of q standings) t (sym (tick_of-in_order q standings) ∙ In-tick q t view rising passed.there) in
    let gone : empties clock now (place_of clock found.0.tick) ≡ true =
    ap (λ (k : ℕ). empties clock now (place_of clock k)) found.2 ∙ due-emptied clock now next t advances due in
    let here : In (q, t) entries = along found.0.tick t found.2 (read.all q found.0 found.1 gone) in
    In-tick q t (filter (is_due now) entries) (Distinct-filter (is_due now) entries read.once) (In-filter (is_due now) (q, t) entries here passed.passes))
    (λ t is.
    let passed : Passed (is_due now) (q, t) entries = In-passed (is_due now) (q, t) entries (tick-In q t (filter (is_due now) entries) is) in
    let gone : Gone clock now standings (q, t) = read.gone (q, t) passed.there in
    let its : tick_of q view ≡ Some t = tick_of-in_order q standings ∙ ap (λ (o : Option Standing). option_map (λ (s : Standing). s.tick) o) gone.standing-is in
    In-tick q t (filter (is_due now) view) (Distinct-filter (is_due now) view rising) (In-filter (is_due now) (q, t) view (tick-In q t view its) passed.passes))
  where
    along : (s t : ℕ) → s ≡ t → In (q, s) entries → In (q, t) entries
    along s t is here = let P : ℕ → Type 0 = λ k. In (q, k) entries in subst P is here

pub due-same : (clock : Clock) (now : ℕ) (next : Clock) (standings : List (ℕ × Standing)) (places : Places) (entries : List (ℕ × ℕ))
    → Read clock now standings places entries → Advances clock now next → IsPermutation (due_of now (in_order standings)) (due_of now entries)
due-same clock now next standings places entries read advances =
    IsPermutation-map timed (filter (is_due now) (in_order standings)) (filter (is_due now) entries)
    (same-entries (filter (is_due now) (in_order standings)) (filter (is_due now) entries)
    (Distinct-filter (is_due now) (in_order standings) (Distinct-rising (in_order standings) (IsRising-in_order standings)))
    (Distinct-filter (is_due now) entries read.once)
    (due-ticks clock now next standings places entries read advances))

pub given : (clock : Clock) (now : ℕ) (next : Clock) (standings : List (ℕ × Standing)) (places : Places) (entries : List (ℕ × ℕ)) (keys : List ℕ)
    → Read clock now standings places entries → Advances clock now next → GivesDue now entries keys → GivesDue now (in_order standings) keys
given clock now next standings places entries keys read advances gives =
    record {
      ticks_and_keys = gives.ticks_and_keys;
      keys = gives.keys;
      exact =
          IsPermutation-trans (due_of now (in_order standings)) (due_of now entries) gives.ticks_and_keys
          (due-same clock now next standings places entries read advances) gives.exact;
      order = gives.order;
    }

pub times : (now : ℕ) (standings : List (ℕ × Standing)) (keys : List ℕ) → GivesDue now (in_order standings) keys → (q : ℕ)
    → count_by (λ k. k == q) keys ≡ (if is_reached now (tick_of q (in_order standings)) then 1 else 0)
times now standings keys gives q =
    times-given now q (in_order standings) gives.ticks_and_keys keys (IsRising-in_order standings) gives.exact gives.keys

-- ---- what has become of each key

both-same : (b : Bool) (o : Option Standing) → (if b then o else o) ≡ o
both-same true o = refl
both-same false o = refl

none-stays : (q : ℕ) (keys : List ℕ) → without_keys q keys None ≡ None
none-stays q [] = refl
none-stays q (k ∷ ks) = ap (without_keys q ks) (both-same (k == q) None) ∙ none-stays q ks

times-cons : (q k : ℕ) (ks : List ℕ) → count_by (λ x. x == q) (k ∷ ks) ≡ (if k == q then 1 else 0) + count_by (λ x. x == q) ks
times-cons q k ks = sum_by-cons (λ x. if x == q then 1 else 0) k ks

times-more : (q k : ℕ) (ks : List ℕ) → k ≡ q → count_by (λ x. x == q) (k ∷ ks) ≡ 1 + count_by (λ x. x == q) ks
times-more q k ks same = times-cons q k ks ∙ ap (λ (b : Bool). (if b then 1 else 0) + count_by (λ x. x == q) ks) (eq-eqb k q same)

times-other : (q k : ℕ) (ks : List ℕ) → k ≢ q → count_by (λ x. x == q) (k ∷ ks) ≡ count_by (λ x. x == q) ks
times-other q k ks apart =
    let first = ap (λ (b : Bool). (if b then 1 else 0) + count_by (λ x. x == q) ks) (ne_eqb k q apart) in
    times-cons q k ks ∙ first ∙ omega arith

keys-out : (q : ℕ) (keys : List ℕ) (o : Option Standing) → count_by (λ k. k == q) keys ≡ 1 → without_keys q keys o ≡ None
keys-out q [] o is = absurd (omega arith)
keys-out q (k ∷ ks) o is =
    elim (cases_eq k q) [
      | inl same ↦ rw (eq-eqb k q same) (none-stays q ks)
      | inr apart ↦ rw (ne_eqb k q apart) (keys-out q ks o (sym (times-other q k ks apart) ∙ is))
    ]

keys-left : (q : ℕ) (keys : List ℕ) (o : Option Standing) → count_by (λ k. k == q) keys ≡ 0 → without_keys q keys o ≡ o
keys-left q [] o is = refl
keys-left q (k ∷ ks) o is =
    elim (cases_eq k q) [
      | inl same ↦ (
          let more = sym (times-more q k ks same) ∙ is in
          absurd (omega arith))
      | inr apart ↦ rw (ne_eqb k q apart) (keys-left q ks o (sym (times-other q k ks apart) ∙ is))
    ]

-- after the due keys were taken out
pub keys-taken : (now : ℕ) (old new : List (ℕ × Standing)) (keys : List ℕ) → GivesDue now (in_order old) keys
    → ((q : ℕ) → standing_of q new ≡ without_keys q keys (standing_of q old))
    → (q : ℕ) (s : Standing) → standing_of q old ≡ Some s → standing_of q new ≡ (if nat_le s.tick now then None else Some s)
keys-taken now old new keys gives changed q s found =
    let count = times now old keys gives q in
    let its : tick_of q (in_order old) ≡ Some s.tick = tick_of-in_order q old ∙ ap (λ (o : Option Standing). option_map (λ (t : Standing). t.tick) o) found in
    let reached : count_by (λ k. k == q) keys ≡ (if nat_le s.tick now then 1 else 0) = count ∙ ap (λ (o : Option ℕ). if is_reached now o then 1 else 0) its in
    elim (cases_Bool (nat_le s.tick now)) [
      | inl due ↦ (
          let one : count_by (λ k. k == q) keys ≡ 1 = reached ∙ ap (λ (b : Bool). if b then 1 else 0) due in
          rw due (changed q ∙ keys-out q keys (standing_of q old) one))
      | inr later ↦ (
          let none : count_by (λ k. k == q) keys ≡ 0 = reached ∙ ap (λ (b : Bool). if b then 1 else 0) later in
          rw later (changed q ∙ keys-left q keys (standing_of q old) none ∙ found))
    ]

-- a key that was nowhere is nowhere
pub keys-none : (old new : List (ℕ × Standing)) (keys : List ℕ) → ((q : ℕ) → standing_of q new ≡ without_keys q keys (standing_of q old))
    → (q : ℕ) → standing_of q old ≡ None → standing_of q new ≡ None
keys-none old new keys changed q none = changed q ∙ ap (without_keys q keys) none ∙ none-stays q keys

-- ---- what a new index makes of a key's standing

renumber-none : (q first : ℕ) (es : List (ℕ × ℕ)) → renumbered_from q first es None ≡ None
renumber-none q first [] = refl
renumber-none q first (e ∷ es) = ap (renumbered_from q (suc first) es) (both-same (e.0 == q) None) ∙ renumber-none q (suc first) es

renumber-other : (q first : ℕ) (es : List (ℕ × ℕ)) (o : Option Standing) → ((e : ℕ × ℕ) → In e es → e.0 ≢ q) → renumbered_from q first es o ≡ o
renumber-other q first [] o apart = refl
renumber-other q first (e ∷ es) o apart =
    rw (ne_eqb e.0 q (apart e (inl refl))) (renumber-other q (suc first) es o (λ f here. apart f (inr here)))

-- where all entries of the key say one standing, it has this one once it had it, or once there was one of them
renumber-kept : (q first : ℕ) (es : List (ℕ × ℕ)) (s : Standing)
    → ((i : ℕ) (e : ℕ × ℕ) → slice_get es i ≡ Some e → e.0 ≡ q → standing e.1 (first + i) ≡ s) → renumbered_from q first es (Some s) ≡ Some s
renumber-kept q first [] s agree = refl
renumber-kept q first (e ∷ es) s agree =
    let rest : (i : ℕ) (f : ℕ × ℕ) → slice_get es i ≡ Some f → f.0 ≡ q → standing f.1 (suc first + i) ≡ s =
    λ i f at same. (let on : suc first + i ≡ first + suc i = omega arith in ap (λ (k : ℕ). standing f.1 k) on ∙ agree (suc i) f at same) in
    elim (cases_eq e.0 q) [
      | inl same ↦ (
          let on : first ≡ first + zero = omega arith in
          let its : standing e.1 first ≡ s = ap (λ (k : ℕ). standing e.1 k) on ∙ agree zero e refl same in
          rw (eq-eqb e.0 q same, its) (renumber-kept q (suc first) es s rest))
      | inr apart ↦ rw (ne_eqb e.0 q apart) (renumber-kept q (suc first) es s rest)
    ]

renumber-found : (q first : ℕ) (es : List (ℕ × ℕ)) (s old : Standing)
    → ((i : ℕ) (e : ℕ × ℕ) → slice_get es i ≡ Some e → e.0 ≡ q → standing e.1 (first + i) ≡ s)
    → (f : ℕ × ℕ) → In f es → f.0 ≡ q → renumbered_from q first es (Some old) ≡ Some s
renumber-found q first [] s old agree f here same = absurd here
renumber-found q first (e ∷ es) s old agree f here same =
    let rest : (i : ℕ) (g : ℕ × ℕ) → slice_get es i ≡ Some g → g.0 ≡ q → standing g.1 (suc first + i) ≡ s =
    λ i g at own. (let on : suc first + i ≡ first + suc i = omega arith in ap (λ (k : ℕ). standing g.1 k) on ∙ agree (suc i) g at own) in
    elim (cases_eq e.0 q) [
      | inl own ↦ (
          let on : first ≡ first + zero = omega arith in
          let its : standing e.1 first ≡ s = ap (λ (k : ℕ). standing e.1 k) on ∙ agree zero e refl own in
          rw (eq-eqb e.0 q own, its) (renumber-kept q (suc first) es s rest))
      | inr apart ↦ elim here [
        | inl is ↦ absurd (apart (ap (λ (g : ℕ × ℕ). g.0) is ∙ same))
        | inr there ↦ rw (ne_eqb e.0 q apart) (renumber-found q (suc first) es s old rest f there same)
      ]
    ]

-- the same of all places
pub all-none : (q : ℕ) (places : Places) → renumbered q places None ≡ None
all-none q [] = refl
all-none q (xs ∷ places) = ap (renumbered q places) (renumber-none q 0 xs) ∙ all-none q places

pub all-other : (q : ℕ) (places : Places) (o : Option Standing) → ((p i : ℕ) (e : ℕ × ℕ) → entry_at places p i ≡ Some e → e.0 ≢ q) → renumbered q places o ≡ o
all-other q [] o apart = refl
all-other q (xs ∷ places) o apart =
    let first = renumber-other q 0 xs o (λ e here. (let at = In-get e xs here in apart zero at.0 e at.1)) in
    ap (renumbered q places) first ∙ all-other q places o (λ p i e at. apart (suc p) i e at)

abbrev pub Agrees : ℕ → Standing → Places → Type 0
Agrees q s places = (p i : ℕ) (e : ℕ × ℕ) → entry_at places p i ≡ Some e → e.0 ≡ q → standing e.1 i ≡ s

agrees-head : (q : ℕ) (s : Standing) (xs : List (ℕ × ℕ)) (places : Places) → Agrees q s (xs ∷ places)
    → (i : ℕ) (e : ℕ × ℕ) → slice_get xs i ≡ Some e → e.0 ≡ q → standing e.1 (0 + i) ≡ s
agrees-head q s xs places agree i e at same =
    let on : 0 + i ≡ i = omega arith in
    ap (λ (k : ℕ). standing e.1 k) on ∙ agree zero i e at same

all-kept : (q : ℕ) (places : Places) (s : Standing) → Agrees q s places → renumbered q places (Some s) ≡ Some s
all-kept q [] s agree = refl
all-kept q (xs ∷ places) s agree =
    ap (renumbered q places) (renumber-kept q 0 xs s (agrees-head q s xs places agree)) ∙ all-kept q places s (λ p i e at same. agree (suc p) i e at same)

some-again : (q first : ℕ) (es : List (ℕ × ℕ)) (old : Standing) → (s : Standing) × (renumbered_from q first es (Some old) ≡ Some s)
some-again q first [] old = (old, refl)
some-again q first (e ∷ es) old =
    elim (cases_eq e.0 q) [
      | inl same ↦ rw (eq-eqb e.0 q same) (some-again q (suc first) es (standing e.1 first))
      | inr apart ↦ rw (ne_eqb e.0 q apart) (some-again q (suc first) es old)
    ]

pub all-found : (q : ℕ) (places : Places) (s old : Standing) → Agrees q s places → (p i : ℕ) (e : ℕ × ℕ) → entry_at places p i ≡ Some e → e.0 ≡ q
    → renumbered q places (Some old) ≡ Some s
all-found q [] s old agree p i e at same = absurd (nothing-some refl at)
all-found q (xs ∷ places) s old agree zero i e at same =
    let first = renumber-found q 0 xs s old (agrees-head q s xs places agree) e (get-In e xs i at) same in
    ap (renumbered q places) first ∙ all-kept q places s (λ p j f there own. agree (suc p) j f there own)
all-found q (xs ∷ places) s old agree (suc p) i e at same =
    let first = some-again q 0 xs old in
    ap (renumbered q places) first.1 ∙ all-found q places s first.0 (λ r j f there own. agree (suc r) j f there own) p i e at same

-- ---- the rule of places after a due call

-- what a due call does to the standings and the places
pub record Turn (clock : Clock) (now : ℕ) (next : Clock) (old new : List (ℕ × Standing)) (places fresh after : Places) (entries : List (ℕ × ℕ)) : Type 0 where
  pub kept : KeepsPlaces clock old places
  pub read : Read clock now old places entries
  pub advances : Advances clock now next
  -- the due ones have gone, and each other key is renumbered
  pub absent : (q : ℕ) → standing_of q old ≡ None → standing_of q new ≡ None
  pub changed : (q : ℕ) (s : Standing) → standing_of q old ≡ Some s → standing_of q new ≡ renumbered q fresh (if nat_le s.tick now then None else Some s)
  -- the later entries at their new places
  pub fresh-is : (p : ℕ) → slice_index_or fresh p [] ≡ so_far next now p entries
  pub after-is : (p : ℕ) → slice_index_or after p [] ≡ (if empties clock now p then slice_index_or fresh p [] else slice_index_or places p [])
  pub made : length after ≡ 1408

-- an entry at a new place
record Fresh (clock : Clock) (now : ℕ) (next : Clock) (old : List (ℕ × Standing)) (entries : List (ℕ × ℕ)) (p : ℕ) (e : ℕ × ℕ) : Type 0 where
  read-there : In e entries
  later : now < e.1
  named : place_of next e.1 ≡ p
  was : Gone clock now old e

later-from : (e : ℕ × ℕ) (now : ℕ) → is_later now e ≡ true → now < e.1
later-from e now is = leb-false e.1 now (not-true (nat_le e.1 now) is)

fresh-entry : (clock : Clock) (now : ℕ) (next : Clock) (old new : List (ℕ × Standing)) (places fresh after : Places) (entries : List (ℕ × ℕ))
    → Turn clock now next old new places fresh after entries → (p i : ℕ) (e : ℕ × ℕ) → entry_at fresh p i ≡ Some e → Fresh clock now next old entries p e
fresh-entry clock now next old new places fresh after entries turn p i e at =
    let here : In e (so_far next now p entries) = get-In e (so_far next now p entries) i (ap (λ l. slice_get l i) (sym (turn.fresh-is p)) ∙ at) in
    let first : Passed (stands_at next p) e (filter (is_later now) entries) = In-passed (stands_at next p) e (filter (is_later now) entries) here in
    let second : Passed (is_later now) e entries = In-passed (is_later now) e entries first.there in
    record {
      read-there = second.there;
      later = later-from e now second.passes;
      named = eqb-true (place_of next e.1) p first.passes;
      was = turn.read.gone e second.there;
    }

-- entries of one key at new places are one entry, at one index
fresh-agrees : (clock : Clock) (now : ℕ) (next : Clock) (old new : List (ℕ × Standing)) (places fresh after : Places) (entries : List (ℕ × ℕ))
    → Turn clock now next old new places fresh after entries → (p i : ℕ) (e : ℕ × ℕ) → entry_at fresh p i ≡ Some e → Agrees e.0 (standing e.1 i) fresh
fresh-agrees clock now next old new places fresh after entries turn p i e at r j f there same =
    let mine : Fresh clock now next old entries p e = fresh-entry clock now next old new places fresh after entries turn p i e at in
    let its : Fresh clock now next old entries r f = fresh-entry clock now next old new places fresh after entries turn r j f there in
    let one : standing f.1 its.was.index ≡ standing e.1 mine.was.index =
    same-standing (standing f.1 its.was.index) (standing e.1 mine.was.index) (sym its.was.standing-is ∙ ap (λ (k : ℕ). standing_of k old) same ∙ mine.was.standing-is) in
    let ticks : f.1 ≡ e.1 = ap (λ (s : Standing). s.tick) one in
    let place : r ≡ p = sym its.named ∙ ap (λ (t : ℕ). place_of next t) ticks ∙ mine.named in
    let once : Distinct (so_far next now p entries) =
    Distinct-filter (stands_at next p) (filter (is_later now) entries) (Distinct-filter (is_later now) entries turn.read.once) in
    let here : slice_get (so_far next now p entries) i ≡ Some e = ap (λ l. slice_get l i) (sym (turn.fresh-is p)) ∙ at in
    let too : slice_get (so_far next now p entries) j ≡ Some f =
    ap (λ l. slice_get l j) (sym (turn.fresh-is p)) ∙ ap (λ (k : ℕ). entry_at fresh k j) (sym place) ∙ there in
    let index : j ≡ i = Distinct-index (so_far next now p entries) j i f e once too here same in
    ap (λ (t : ℕ). standing t j) ticks ∙ ap (λ (k : ℕ). standing e.1 k) index

-- what has become of a key that was there: it was given, or left where it stood, or moved
record Given (now : ℕ) (new : List (ℕ × Standing)) (q : ℕ) (s : Standing) : Type 0 where
  due : s.tick ≤ now
  out : standing_of q new ≡ None

record Left (clock : Clock) (now : ℕ) (new : List (ℕ × Standing)) (q : ℕ) (s : Standing) : Type 0 where
  later : now < s.tick
  spared : empties clock now (place_of clock s.tick) ≡ false
  still : standing_of q new ≡ Some s

record Moved (clock : Clock) (now : ℕ) (next : Clock) (new : List (ℕ × Standing)) (fresh : Places) (q : ℕ) (s : Standing) : Type 0 where
  index : ℕ
  later : now < s.tick
  emptied-there : empties clock now (place_of next s.tick) ≡ true
  there : entry_at fresh (place_of next s.tick) index ≡ Some (q, s.tick)
  now-there : standing_of q new ≡ Some (standing s.tick index)

fate-given : (clock : Clock) (now : ℕ) (next : Clock) (old new : List (ℕ × Standing)) (places fresh after : Places) (entries : List (ℕ × ℕ))
    → Turn clock now next old new places fresh after entries → (q : ℕ) (s : Standing) → standing_of q old ≡ Some s → s.tick ≤ now → Given now new q s
fate-given clock now next old new places fresh after entries turn q s found due =
    record {
      due = due;
      out =
          turn.changed q s found ∙ ap (λ (b : Bool). renumbered q fresh (if b then None else Some s)) (le-leb s.tick now due) ∙ all-none q fresh;
    }

still-some : (clock : Clock) (now : ℕ) (next : Clock) (old new : List (ℕ × Standing)) (places fresh after : Places) (entries : List (ℕ × ℕ))
    → Turn clock now next old new places fresh after entries → (q : ℕ) (s : Standing) → standing_of q old ≡ Some s → now < s.tick
    → standing_of q new ≡ renumbered q fresh (Some s)
still-some clock now next old new places fresh after entries turn q s found later =
    turn.changed q s found ∙ ap (λ (b : Bool). renumbered q fresh (if b then None else Some s)) (lt-leb s.tick now later)

fate-left : (clock : Clock) (now : ℕ) (next : Clock) (old new : List (ℕ × Standing)) (places fresh after : Places) (entries : List (ℕ × ℕ))
    → Turn clock now next old new places fresh after entries → (q : ℕ) (s : Standing) → standing_of q old ≡ Some s
    → empties clock now (place_of clock s.tick) ≡ false → Left clock now new q s
fate-left clock now next old new places fresh after entries turn q s found spared =
    let remains : Remains clock now next s.tick = place-stays clock now next s.tick turn.advances spared in
    let nowhere : (p i : ℕ) (e : ℕ × ℕ) → entry_at fresh p i ≡ Some e → e.0 ≢ q =
    λ p i e at same.
    let mine : Fresh clock now next old entries p e = fresh-entry clock now next old new places fresh after entries turn p i e at in
    let one : s ≡ standing e.1 mine.was.index =
    same-standing s (standing e.1 mine.was.index) (sym found ∙ ap (λ (k : ℕ). standing_of k old) (sym same) ∙ mine.was.standing-is) in
    both-ways (empties clock now (place_of clock s.tick)) (ap (λ (t : Standing). empties clock now (place_of clock t.tick)) one ∙ mine.was.gone) spared in
    record {
      later = remains.after;
      spared = spared;
      still = still-some clock now next old new places fresh after entries turn q s found remains.after ∙ all-other q fresh (Some s) nowhere;
    }

fate-moved : (clock : Clock) (now : ℕ) (next : Clock) (old new : List (ℕ × Standing)) (places fresh after : Places) (entries : List (ℕ × ℕ))
    → Turn clock now next old new places fresh after entries → (q : ℕ) (s : Standing) → standing_of q old ≡ Some s
    → empties clock now (place_of clock s.tick) ≡ true → now < s.tick → Moved clock now next new fresh q s
fate-moved clock now next old new places fresh after entries turn q s found gone later =
    let read : In (q, s.tick) entries = turn.read.all q s found gone in
    let later-yes : is_later now (q, s.tick) ≡ true = ap not (lt-leb s.tick now later) in
    let place-yes : stands_at next (place_of next s.tick) (q, s.tick) ≡ true = eq-eqb (place_of next s.tick) (place_of next s.tick) refl in
    let here : In (q, s.tick) (so_far next now (place_of next s.tick) entries) =
    In-filter (stands_at next (place_of next s.tick)) (q, s.tick) (filter (is_later now) entries) (In-filter (is_later now) (q, s.tick) entries read later-yes) place-yes in
    let at = In-get (q, s.tick) (so_far next now (place_of next s.tick) entries) here in
    let there : entry_at fresh (place_of next s.tick) at.0 ≡ Some (q, s.tick) = ap (λ l. slice_get l at.0) (turn.fresh-is (place_of next s.tick)) ∙ at.1 in
    let agrees : Agrees q (standing s.tick at.0) fresh =
    fresh-agrees clock now next old new places fresh after entries turn (place_of next s.tick) at.0 (q, s.tick) there in
    record {
      index = at.0;
      later = later;
      emptied-there = place-moves clock now next s.tick turn.advances gone later;
      there = there;
      now-there =
          still-some clock now next old new places fresh after entries turn q s found later
          ∙ all-found q fresh (standing s.tick at.0) s agrees (place_of next s.tick) at.0 (q, s.tick) there refl;
    }

fate : (clock : Clock) (now : ℕ) (next : Clock) (old new : List (ℕ × Standing)) (places fresh after : Places) (entries : List (ℕ × ℕ))
    → Turn clock now next old new places fresh after entries → (q : ℕ) (s : Standing) → standing_of q old ≡ Some s
    → Given now new q s ⊎ (Left clock now new q s ⊎ Moved clock now next new fresh q s)
fate clock now next old new places fresh after entries turn q s found =
    elim (cases_Bool (empties clock now (place_of clock s.tick))) [
      | inl gone ↦ elim (cases_lt now s.tick) [
        | inl later ↦ inr (inr (fate-moved clock now next old new places fresh after entries turn q s found gone later))
        | inr due ↦ inl (fate-given clock now next old new places fresh after entries turn q s found due)
      ]
      | inr spared ↦ inr (inl (fate-left clock now next old new places fresh after entries turn q s found spared))
    ]

cases-standing : (o : Option Standing) → (o ≡ None) ⊎ ((s : Standing) × (o ≡ Some s))
cases-standing None = inl refl
cases-standing (Some s) = inr (s, refl)

pub turned-ticks : (clock : Clock) (now : ℕ) (next : Clock) (old new : List (ℕ × Standing)) (places fresh after : Places) (entries : List (ℕ × ℕ))
    → Turn clock now next old new places fresh after entries → LeftLater now old new
turned-ticks clock now next old new places fresh after entries turn =
    record {
      ticks = λ q.
          let tick : Option Standing → Option ℕ = λ o. option_map (λ (s : Standing). s.tick) o in
          elim (cases-standing (standing_of q old)) [
            | inl none ↦ ap tick (turn.absent q none) ∙ sym (ap (λ (o : Option Standing). later_tick now (option_map (λ (s : Standing). s.tick) o)) none)
            | inr found ↦ (
                let was : later_tick now (tick_in q old) ≡ (if nat_le found.0.tick now then None else Some found.0.tick) =
                ap (λ (o : Option Standing). later_tick now (option_map (λ (s : Standing). s.tick) o)) found.1 in
                elim (fate clock now next old new places fresh after entries turn q found.0 found.1) [
                  | inl given' ↦ (
                      let now-none = ap (λ (b : Bool). if b then None else Some found.0.tick) (le-leb found.0.tick now given'.due) in
                      ap tick given'.out ∙ sym (was ∙ now-none))
                  | inr on ↦ elim on [
                    | inl left ↦ (
                        let still = ap (λ (b : Bool). if b then None else Some found.0.tick) (lt-leb found.0.tick now left.later) in
                        ap tick left.still ∙ sym (was ∙ still))
                    | inr moved ↦ (
                        let still = ap (λ (b : Bool). if b then None else Some found.0.tick) (lt-leb found.0.tick now moved.later) in
                        ap tick moved.now-there ∙ sym (was ∙ still))
                  ]
                ])
          ];
    }

after-emptied : (clock : Clock) (now : ℕ) (next : Clock) (old new : List (ℕ × Standing)) (places fresh after : Places) (entries : List (ℕ × ℕ))
    → Turn clock now next old new places fresh after entries → (p i : ℕ) → empties clock now p ≡ true → entry_at after p i ≡ entry_at fresh p i
after-emptied clock now next old new places fresh after entries turn p i is =
    ap (λ l. slice_get l i) (turn.after-is p ∙ ap (λ (b : Bool). if b then slice_index_or fresh p [] else slice_index_or places p []) is)

after-spared : (clock : Clock) (now : ℕ) (next : Clock) (old new : List (ℕ × Standing)) (places fresh after : Places) (entries : List (ℕ × ℕ))
    → Turn clock now next old new places fresh after entries → (p i : ℕ) → empties clock now p ≡ false → entry_at after p i ≡ entry_at places p i
after-spared clock now next old new places fresh after entries turn p i is =
    ap (λ l. slice_get l i) (turn.after-is p ∙ ap (λ (b : Bool). if b then slice_index_or fresh p [] else slice_index_or places p []) is)

turned-stands : (clock : Clock) (now : ℕ) (next : Clock) (old new : List (ℕ × Standing)) (places fresh after : Places) (entries : List (ℕ × ℕ))
    → Turn clock now next old new places fresh after entries → (q : ℕ) (t : Standing) → standing_of q new ≡ Some t
    → entry_at after (place_of next t.tick) t.index ≡ Some (q, t.tick)
turned-stands clock now next old new places fresh after entries turn q t is =
    elim (cases-standing (standing_of q old)) [
      | inl none ↦ absurd (nothing-some (turn.absent q none) is)
      | inr found ↦ elim (fate clock now next old new places fresh after entries turn q found.0 found.1) [
        | inl given' ↦ absurd (nothing-some given'.out is)
        | inr on ↦ elim on [
          | inl left ↦ (
              let its : found.0 ≡ t = same-standing found.0 t (sym left.still ∙ is) in
              let remains : Remains clock now next found.0.tick = place-stays clock now next found.0.tick turn.advances left.spared in
              let stood : entry_at after (place_of next found.0.tick) found.0.index ≡ Some (q, found.0.tick) =
              ap (λ (p : ℕ). entry_at after p found.0.index) remains.there
              ∙ after-spared clock now next old new places fresh after entries turn (place_of clock found.0.tick) found.0.index left.spared
              ∙ turn.kept.stands q found.0 found.1 in
              let P : Standing → Type 0 = λ (s : Standing). entry_at after (place_of next s.tick) s.index ≡ Some (q, s.tick) in
              subst P its stood)
          | inr moved ↦ (
              let its : standing found.0.tick moved.index ≡ t = same-standing (standing found.0.tick moved.index) t (sym moved.now-there ∙ is) in
              let stood : entry_at after (place_of next found.0.tick) moved.index ≡ Some (q, found.0.tick) =
              after-emptied clock now next old new places fresh after entries turn (place_of next found.0.tick) moved.index moved.emptied-there ∙ moved.there in
              let P : Standing → Type 0 = λ (s : Standing). entry_at after (place_of next s.tick) s.index ≡ Some (q, s.tick) in
              subst P its stood)
        ]
      ]
    ]

turned-only : (clock : Clock) (now : ℕ) (next : Clock) (old new : List (ℕ × Standing)) (places fresh after : Places) (entries : List (ℕ × ℕ))
    → Turn clock now next old new places fresh after entries → (p i : ℕ) (e : ℕ × ℕ) → entry_at after p i ≡ Some e → StandsThere next new p i e
turned-only clock now next old new places fresh after entries turn p i e at =
    elim (cases_Bool (empties clock now p)) [
      | inl gone ↦ (
          let there : entry_at fresh p i ≡ Some e = sym (after-emptied clock now next old new places fresh after entries turn p i gone) ∙ at in
          let mine : Fresh clock now next old entries p e = fresh-entry clock now next old new places fresh after entries turn p i e there in
          let agrees : Agrees e.0 (standing e.1 i) fresh = fresh-agrees clock now next old new places fresh after entries turn p i e there in
          record {
            standing =
                still-some clock now next old new places fresh after entries turn e.0 (standing e.1 mine.was.index) mine.was.standing-is mine.later
                ∙ all-found e.0 fresh (standing e.1 i) (standing e.1 mine.was.index) agrees p i e there refl;
            named = mine.named;
          })
      | inr spared ↦ (
          let there : entry_at places p i ≡ Some e = sym (after-spared clock now next old new places fresh after entries turn p i spared) ∙ at in
          let stood : StandsThere clock old p i e = turn.kept.only p i e there in
          let its : empties clock now (place_of clock e.1) ≡ false = ap (empties clock now) stood.named ∙ spared in
          let left : Left clock now new e.0 (standing e.1 i) =
          fate-left clock now next old new places fresh after entries turn e.0 (standing e.1 i) stood.standing its in
          let remains : Remains clock now next e.1 = place-stays clock now next e.1 turn.advances its in
          record { standing = left.still; named = remains.there ∙ stood.named })
    ]

pub turned : (clock : Clock) (now : ℕ) (next : Clock) (old new : List (ℕ × Standing)) (places fresh after : Places) (entries : List (ℕ × ℕ))
    → Turn clock now next old new places fresh after entries → KeepsPlaces next new after
turned clock now next old new places fresh after entries turn =
    record {
      stands = turned-stands clock now next old new places fresh after entries turn;
      only = turned-only clock now next old new places fresh after entries turn;
      made = inl turn.made;
    }

-- ---- where nothing stands at an emptied place

idle-spared : (clock : Clock) (now : ℕ) (standings : List (ℕ × Standing)) (places : Places) (entries : List (ℕ × ℕ))
    → Read clock now standings places entries → entries ≡ [] → (q : ℕ) (s : Standing) → standing_of q standings ≡ Some s
    → empties clock now (place_of clock s.tick) ≡ false
idle-spared clock now standings places entries read none q s found =
    elim (cases_Bool (empties clock now (place_of clock s.tick))) [
      | inl gone ↦ absurd (rw none at (read.all q s found gone))
      | inr spared ↦ spared
    ]

pub idle-ticks : (clock : Clock) (now : ℕ) (next : Clock) (standings : List (ℕ × Standing)) (places : Places) (entries : List (ℕ × ℕ))
    → Read clock now standings places entries → Advances clock now next → entries ≡ [] → LeftLater now standings standings
idle-ticks clock now next standings places entries read advances none =
    record {
      ticks = λ q. elim (cases-standing (standing_of q standings)) [
        | inl nothing ↦ (
            ap (λ (o : Option Standing). option_map (λ (s : Standing). s.tick) o) nothing
            ∙ sym (ap (λ (o : Option Standing). later_tick now (option_map (λ (s : Standing). s.tick) o)) nothing))
        | inr found ↦ (
            let remains : Remains clock now next found.0.tick = place-stays clock now next found.0.tick advances (spared q found.0 found.1) in
            let still = ap (λ (b : Bool). if b then None else Some found.0.tick) (lt-leb found.0.tick now remains.after) in
            ap (λ (o : Option Standing). option_map (λ (s : Standing). s.tick) o) found.1
            ∙ sym (ap (λ (o : Option Standing). later_tick now (option_map (λ (s : Standing). s.tick) o)) found.1 ∙ still))
      ];
    }
  where
    spared : (q : ℕ) (s : Standing) → standing_of q standings ≡ Some s → empties clock now (place_of clock s.tick) ≡ false
    spared q s found = idle-spared clock now standings places entries read none q s found

pub idle : (clock : Clock) (now : ℕ) (next : Clock) (standings : List (ℕ × Standing)) (places : Places) (entries : List (ℕ × ℕ))
    → KeepsPlaces clock standings places → Read clock now standings places entries → Advances clock now next → entries ≡ [] → KeepsPlaces next standings places
idle clock now next standings places entries kept read advances none =
    record {
      stands = λ q s found.
          let remains : Remains clock now next s.tick =
          place-stays clock now next s.tick advances (idle-spared clock now standings places entries read none q s found) in
          ap (λ (p : ℕ). entry_at places p s.index) remains.there ∙ kept.stands q s found;
      only = λ p i e at.
          let stood : StandsThere clock standings p i e = kept.only p i e at in
          let remains : Remains clock now next e.1 =
          place-stays clock now next e.1 advances (idle-spared clock now standings places entries read none e.0 (standing e.1 i) stood.standing) in
          record { standing = stood.standing; named = remains.there ∙ stood.named };
      made = kept.made;
    }

-- the clock of a due call
pub advances-to : (clock : Clock) (now latest : ℕ) → latest ≡ max clock.latest now → Advances clock now (record { latest = latest; last = now })
advances-to clock now latest is =
    record { stays = λ le. to-stays clock.latest now latest is le; on = λ lt. to-on clock.latest now latest is lt; last = refl }
  where
    to-stays : (latest now next : ℕ) → next ≡ max latest now → now ≤ latest → next ≡ latest
    to-stays latest now next is le = grind (arith, nat_tests)

    to-on : (latest now next : ℕ) → next ≡ max latest now → latest < now → next ≡ now
    to-on latest now next is lt = grind (arith, nat_tests)

pub gives-none : (now : ℕ) (entries : List (ℕ × ℕ)) (keys : List ℕ) → entries ≡ [] → keys ≡ [] → GivesDue now entries keys
gives-none now entries keys none is =
    record {
      ticks_and_keys = [];
      keys = is;
      exact = rw none (IsPermutation-refl []);
      order = λ k d low high. absurd (omega arith);
    }

pub no-entries : (es : List (ℕ × ℕ)) → length es ≡ 0 → es ≡ []
no-entries [] none = refl
no-entries (e ∷ es) none = absurd (omega arith)
