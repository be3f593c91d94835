-- The rule of places is kept by what `set` and `clear` do.
use Rattle.std.proofs.Common.{◌≡◌, ◌≢◌, ◌<◌, ◌≤◌, ◌-◌, ◌==◌, ℕ, List, [], ◌∷◌, ◌++◌, length, take, slice_index_or, slice_set, replicate, zero, suc, Option, Some, None, ◌⊎◌, if◌then◌else◌, refl, ap, sym, ◌∙◌, inl, inr, arith, get_or-set_other, get_or-set_same, length-append}
use Rattle.std.specs.List.{slice_get}
use Rattle.std.specs.Option.{option_map}
use Rattle.std.proofs.lemmas.Bool.{eq-eqb, ne_eqb, lt-ltb, le-ltb, cases_eq, cases_lt}
use Rattle.std.proofs.lemmas.Option.{slice_get_within, slice_get_past, some_pair_parts, same_Some}
use Rattle.std.proofs.lemmas.Grind.{common_steps}
use Rattle.ix_time.specs.declared.places.Clock.{Clock}
use Rattle.ix_time.specs.declared.standings.Standing.{Standing}
use Rattle.ix_time.specs.Places.{place_of}
use Rattle.ix_time.specs.Standings.{standing_of, tick_in}
use Rattle.ix_time.specs.Slots.{taken, entry_at, taken_at}
use Rattle.ix_time.specs.Wheel.{StandsThere, KeepsPlaces, IsLoose}
use Rattle.ix_time.proofs.PlaceLemmas.{place-lt}

abbrev pub Places : Type 0
Places = List (List (ℕ × ℕ))

abbrev pub slot : Places → ℕ → List (ℕ × ℕ)
slot places place = slice_index_or places place []

abbrev pub standing : ℕ → ℕ → Standing
standing tick index = record { tick = tick; index = index }

-- ---- an entry taken away

taken-here : (places : Places) (place index p i : ℕ) → p ≡ place → taken_at places place index p i ≡ taken (slot places place) index i
taken-here places place index p i same = rw (eq-eqb p place same) refl

taken-away : (places : Places) (place index p i : ℕ) → p ≢ place → taken_at places place index p i ≡ entry_at places p i
taken-away places place index p i apart = rw (ne_eqb p place apart) refl

taken-moved : (xs : List (ℕ × ℕ)) (index i : ℕ) → i < length xs - 1 → i ≡ index → taken xs index i ≡ slice_get xs (length xs - 1)
taken-moved xs index i lt same = rw (lt-ltb i (length xs - 1) lt, eq-eqb i index same) refl

taken-other : (xs : List (ℕ × ℕ)) (index i : ℕ) → i < length xs - 1 → i ≢ index → taken xs index i ≡ slice_get xs i
taken-other xs index i lt apart = rw (lt-ltb i (length xs - 1) lt, ne_eqb i index apart) refl

taken-past : (xs : List (ℕ × ℕ)) (index i : ℕ) → length xs - 1 ≤ i → taken xs index i ≡ None
taken-past xs index i le = rw (le-ltb i (length xs - 1) le) refl

is-there : (xs : List (ℕ × ℕ)) (i : ℕ) → i < length xs → (e : ℕ × ℕ) × (slice_get xs i ≡ Some e)
is-there [] i lt = absurd (omega arith)
is-there (x ∷ xs) zero lt = (x, refl)
is-there (x ∷ xs) (suc i) lt = is-there xs i (omega arith)

-- what every key has after the last entry's key got a new index
abbrev pub replaced : (ℕ × ℕ) → ℕ → ℕ → List (ℕ × Standing) → Option Standing
replaced e index q standings = if e.0 == q then option_map (λ (s : Standing). standing e.1 index) (standing_of q standings) else standing_of q standings

replaced-same : (e : ℕ × ℕ) (index q : ℕ) (standings : List (ℕ × Standing)) (s : Standing) → e.0 ≡ q → standing_of q standings ≡ Some s
    → replaced e index q standings ≡ Some (standing e.1 index)
replaced-same e index q standings s same is = rw (eq-eqb e.0 q same, is) refl

replaced-other : (e : ℕ × ℕ) (index q : ℕ) (standings : List (ℕ × Standing)) → e.0 ≢ q → replaced e index q standings ≡ standing_of q standings
replaced-other e index q standings apart = rw (ne_eqb e.0 q apart) refl

-- one entry of the last index was loose: nothing takes its place
pub kept-last : (clock : Clock) (old new : List (ℕ × Standing)) (places after : Places) (place index : ℕ) → IsLoose clock old places place index
    → ((p i : ℕ) → entry_at after p i ≡ taken_at places place index p i) → length after ≡ length places
    → taken_at places place index place index ≡ None → ((q : ℕ) → standing_of q new ≡ standing_of q old) → KeepsPlaces clock new after
kept-last clock old new places after place index loose rest len none same =
    let xs : List (ℕ × ℕ) = slot places place in
    let last : length xs - 1 ≤ index = is-last in
    record {
      stands = λ key s is.
          let was : standing_of key old ≡ Some s = sym (same key) ∙ is in
          let stood = loose.stands key s was in
          elim (cases_eq (place_of clock s.tick) place) [
            | inl here ↦ (
                let apart : s.index ≢ index = loose.free key s was here in
                let its : slice_get xs s.index ≡ Some (key, s.tick) = ap (λ (p : ℕ). entry_at places p s.index) (sym here) ∙ stood in
                let within = slice_get_within xs s.index (key, s.tick) its in
                rest (place_of clock s.tick) s.index ∙ taken-here places place index (place_of clock s.tick) s.index here
                ∙ taken-other xs index s.index (omega (arith, loose.there)) apart ∙ its)
            | inr away ↦ rest (place_of clock s.tick) s.index ∙ taken-away places place index (place_of clock s.tick) s.index away ∙ stood
          ];
      only = λ p i e at.
          let was : taken_at places place index p i ≡ Some e = sym (rest p i) ∙ at in
          elim (cases_eq p place) [
            | inl here ↦ (
                let inner : taken xs index i ≡ Some e = sym (taken-here places place index p i here) ∙ was in
                elim (cases_lt i (length xs - 1)) [
                  | inl lt ↦ (
                      let apart : i ≢ index = λ e. absurd (omega arith) in
                      let its : entry_at places p i ≡ Some e = ap (λ (k : ℕ). entry_at places k i) here ∙ sym (taken-other xs index i lt apart) ∙ inner in
                      moved-on p i e (loose.only p i e its (λ h. apart)))
                  | inr past ↦ absurd (nothing (taken-past xs index i past) inner)
                ])
            | inr away ↦ (
                let its : entry_at places p i ≡ Some e = sym (taken-away places place index p i away) ∙ was in
                moved-on p i e (loose.only p i e its (λ h. absurd (away h))))
          ];
      made = inl (len ∙ loose.made);
    }
  where
    nothing : {e : ℕ × ℕ} {o : Option (ℕ × ℕ)} → o ≡ None → o ≡ Some e → ⊥
    nothing none some = cc

    is-last : length (slot places place) - 1 ≤ index
    is-last =
        elim (cases_lt index (length (slot places place) - 1)) [
          | inl lt ↦ (
              let there = is-there (slot places place) (length (slot places place) - 1) (omega arith) in
              let its = sym (taken-here places place index place index refl ∙ taken-moved (slot places place) index index lt refl) ∙ none in
              absurd (nothing its there.1))
          | inr le ↦ le
        ]

    moved-on : (p i : ℕ) (e : ℕ × ℕ) → StandsThere clock old p i e → StandsThere clock new p i e
    moved-on p i e was = record { standing = same e.0 ∙ was.standing; named = was.named }

-- what the places hold after the last entry of one took the index of another
record Moved (clock : Clock) (old : List (ℕ × Standing)) (places after : Places) (place index : ℕ) (e : ℕ × ℕ) : Type 0 where
  below : index < length (slot places place) - 1
  last : slice_get (slot places place) (length (slot places place) - 1) ≡ Some e
  stood : StandsThere clock old place (length (slot places place) - 1) e
  here : (p : ℕ) → p ≡ place → entry_at after p index ≡ Some e
  kept : (p i : ℕ) → p ≡ place → i < length (slot places place) - 1 → i ≢ index → entry_at after p i ≡ entry_at places p i
  past : (p i : ℕ) → p ≡ place → length (slot places place) - 1 ≤ i → entry_at after p i ≡ None
  away : (p i : ℕ) → p ≢ place → entry_at after p i ≡ entry_at places p i

nothing-some : {A : Type 0} {x : A} {o : Option A} → o ≡ None → o ≡ Some x → ⊥
nothing-some none some = cc

moved-from : (clock : Clock) (old : List (ℕ × Standing)) (places after : Places) (place index : ℕ) (e : ℕ × ℕ) → IsLoose clock old places place index
    → ((p i : ℕ) → entry_at after p i ≡ taken_at places place index p i) → taken_at places place index place index ≡ Some e
    → Moved clock old places after place index e
moved-from clock old places after place index e loose rest some =
    let inner : taken (slot places place) index index ≡ Some e = sym (taken-here places place index place index refl) ∙ some in
    let lt : index < length (slot places place) - 1 =
    elim (cases_lt index (length (slot places place) - 1)) [
      | inl lt ↦ lt
      | inr le ↦ absurd (nothing-some (taken-past (slot places place) index index le) inner)
    ] in
    let end : slice_get (slot places place) (length (slot places place) - 1) ≡ Some e = sym (taken-moved (slot places place) index index lt refl) ∙ inner in
    record {
      below = lt;
      last = end;
      stood = loose.only place (length (slot places place) - 1) e end (λ h same. absurd (omega arith));
      here = λ p same. rest p index ∙ taken-here places place index p index same ∙ inner;
      kept = λ p i same below apart.
          rest p i ∙ taken-here places place index p i same ∙ taken-other (slot places place) index i below apart
          ∙ ap (λ (k : ℕ). entry_at places k i) (sym same);
      past = λ p i same le. rest p i ∙ taken-here places place index p i same ∙ taken-past (slot places place) index i le;
      away = λ p i apart. rest p i ∙ taken-away places place index p i apart;
    }

same-standing : (s t : Standing) → Some s ≡ Some t → s ≡ t
same-standing s t e = cc

pair-eta : (e : ℕ × ℕ) (key : ℕ) → e.0 ≡ key → ◌≡◌ {A = Option (ℕ × ℕ)} (Some e) (Some (key, e.1))
pair-eta e key same = ap (λ (k : ℕ). Some (k, e.1)) same

-- the last entry took the index of the loose one
pub kept-moved : (clock : Clock) (old new : List (ℕ × Standing)) (places after : Places) (place index : ℕ) (e : ℕ × ℕ) → IsLoose clock old places place index
    → ((p i : ℕ) → entry_at after p i ≡ taken_at places place index p i) → length after ≡ length places
    → taken_at places place index place index ≡ Some e → ((q : ℕ) → standing_of q new ≡ replaced e index q old) → KeepsPlaces clock new after
kept-moved clock old new places after place index e loose rest len some changed =
    let moved : Moved clock old places after place index e = moved-from clock old places after place index e loose rest some in
    let mine : standing_of e.0 new ≡ Some (standing e.1 index) =
    changed e.0 ∙ replaced-same e index e.0 old (standing e.1 (length (slot places place) - 1)) refl moved.stood.standing in
    record {
      stands = λ key s is. elim (cases_eq e.0 key) [
        | inl same ↦ (
            let its : s ≡ standing e.1 index = same-standing s (standing e.1 index) (sym is ∙ ap (λ (k : ℕ). standing_of k new) (sym same) ∙ mine) in
            ap (λ (t : Standing). entry_at after (place_of clock t.tick) t.index) its
            ∙ moved.here (place_of clock e.1) moved.stood.named ∙ pair-eta e key same
            ∙ ap (λ (t : Standing). Some (key, t.tick)) (sym its))
        | inr apart ↦ (
            let was : standing_of key old ≡ Some s = sym (replaced-other e index key old apart) ∙ sym (changed key) ∙ is in
            let stood = loose.stands key s was in
            elim (cases_eq (place_of clock s.tick) place) [
              | inl here ↦ (
                  let other : s.index ≢ index = loose.free key s was here in
                  let its : slice_get (slot places place) s.index ≡ Some (key, s.tick) = ap (λ (p : ℕ). entry_at places p s.index) (sym here) ∙ stood in
                  let within = slice_get_within (slot places place) s.index (key, s.tick) its in
                  let before : s.index ≢ length (slot places place) - 1 =
                  λ h. apart (first-of e key s.tick (sym moved.last ∙ ap (λ (i : ℕ). slice_get (slot places place) i) (sym h) ∙ its)) in
                  moved.kept (place_of clock s.tick) s.index here (omega arith) other ∙ stood)
              | inr away ↦ moved.away (place_of clock s.tick) s.index away ∙ stood
            ])
      ];
      only = λ p i f at. elim (cases_eq p place) [
        | inl here ↦ elim (cases_lt i (length (slot places place) - 1)) [
          | inl lt ↦ elim (cases_eq i index) [
            | inl there ↦ (
                let its : f ≡ e = same-entry f e (sym at ∙ ap (λ (k : ℕ). entry_at after p k) there ∙ moved.here p here) in
                record {
                  standing =
                      ap (λ (g : ℕ × ℕ). standing_of g.0 new) its ∙ mine
                      ∙ ap (λ (k : ℕ). Some (standing e.1 k)) (sym there) ∙ ap (λ (g : ℕ × ℕ). Some (standing g.1 i)) (sym its);
                  named = ap (λ (g : ℕ × ℕ). place_of clock g.1) its ∙ moved.stood.named ∙ sym here;
                })
            | inr other ↦ (
                let was : entry_at places p i ≡ Some f = sym (moved.kept p i here lt other) ∙ at in
                let stood : StandsThere clock old p i f = loose.only p i f was (λ h. other) in
                let apart : e.0 ≢ f.0 =
                λ same. absurd (not-last (length (slot places place) - 1) i e.1 f.1 lt (sym moved.stood.standing ∙ ap (λ (k : ℕ). standing_of k old) same ∙ stood.standing)) in
                record { standing = changed f.0 ∙ replaced-other e index f.0 old apart ∙ stood.standing; named = stood.named })
          ]
          | inr past ↦ absurd (nothing-some (moved.past p i here past) at)
        ]
        | inr away ↦ (
            let was : entry_at places p i ≡ Some f = sym (moved.away p i away) ∙ at in
            let stood : StandsThere clock old p i f = loose.only p i f was (λ h. absurd (away h)) in
            let apart : e.0 ≢ f.0 =
            λ same. away
            (sym stood.named
            ∙ ap (λ (t : Standing). place_of clock t.tick)
            (same-standing (standing f.1 i) (standing e.1 (length (slot places place) - 1)) (sym stood.standing ∙ ap (λ (k : ℕ). standing_of k old) (sym same) ∙ moved.stood.standing))
            ∙ moved.stood.named) in
            record { standing = changed f.0 ∙ replaced-other e index f.0 old apart ∙ stood.standing; named = stood.named })
      ];
      made = inl (len ∙ loose.made);
    }
  where
    first-of : (e : ℕ × ℕ) (key tick : ℕ) → ◌≡◌ {A = Option (ℕ × ℕ)} (Some e) (Some (key, tick)) → e.0 ≡ key
    first-of e key tick is = let same : e ≡ (key, tick) = cc in ap (λ (g : ℕ × ℕ). g.0) same

    same-entry : (f e : ℕ × ℕ) → ◌≡◌ {A = Option (ℕ × ℕ)} (Some f) (Some e) → f ≡ e
    same-entry f e is = cc

    not-last : (last i t u : ℕ) → i < last → ◌≡◌ {A = Option Standing} (Some (standing t last)) (Some (standing u i)) → ⊥
    not-last last i t u lt same =
        let at : last ≡ i = ap (λ (s : Standing). s.index) (same-standing (standing t last) (standing u i) same) in
        omega arith

-- where any key stands the places are made
pub whole : (clock : Clock) (standings : List (ℕ × Standing)) (places : Places) (key : ℕ) (s : Standing) → KeepsPlaces clock standings places
    → standing_of key standings ≡ Some s → length places ≡ 1408
whole clock standings places key s kept found =
    elim kept.made [
      | inl made ↦ made
      | inr none ↦ (
          let nowhere : entry_at places (place_of clock s.tick) s.index ≡ None = ap (λ (l : Places). entry_at l (place_of clock s.tick) s.index) none in
          absurd (nothing-some nowhere (kept.stands key s found)))
    ]

-- no key's tick changes
pub ticks-moved : (clock : Clock) (old new : List (ℕ × Standing)) (places after : Places) (place index : ℕ) (e : ℕ × ℕ) → IsLoose clock old places place index
    → ((p i : ℕ) → entry_at after p i ≡ taken_at places place index p i) → taken_at places place index place index ≡ Some e
    → ((q : ℕ) → standing_of q new ≡ replaced e index q old) → (q : ℕ) → tick_in q new ≡ tick_in q old
ticks-moved clock old new places after place index e loose rest some changed q =
    let moved : Moved clock old places after place index e = moved-from clock old places after place index e loose rest some in
    let tick : Option Standing → Option ℕ = λ o. option_map (λ (s : Standing). s.tick) o in
    elim (cases_eq e.0 q) [
      | inl same ↦ (
          let was : standing_of q old ≡ Some (standing e.1 (length (slot places place) - 1)) = ap (λ (k : ℕ). standing_of k old) (sym same) ∙ moved.stood.standing in
          ap tick (changed q ∙ replaced-same e index q old (standing e.1 (length (slot places place) - 1)) same was) ∙ sym (ap tick was))
      | inr apart ↦ ap tick (changed q ∙ replaced-other e index q old apart)
    ]

-- ---- a key taken out

pub cleared-loose : (clock : Clock) (old new : List (ℕ × Standing)) (places : Places) (key : ℕ) (s : Standing) → KeepsPlaces clock old places
    → standing_of key old ≡ Some s → ((q : ℕ) → standing_of q new ≡ (if key == q then None else standing_of q old))
    → IsLoose clock new places (place_of clock s.tick) s.index
cleared-loose clock old new places key s kept found changed =
    let stood = kept.stands key s found in
    record {
      stands = λ q t is. kept.stands q t (others q (gone q t is) t is);
      only = λ p i e at other.
          let was : StandsThere clock old p i e = kept.only p i e at in
          let apart : key ≢ e.0 =
          λ same.
          let its : s ≡ standing e.1 i = same-standing s (standing e.1 i) (sym found ∙ ap (λ (k : ℕ). standing_of k old) same ∙ was.standing) in
          other (sym was.named ∙ ap (λ (t : Standing). place_of clock t.tick) (sym its)) (ap (λ (t : Standing). t.index) (sym its)) in
          record { standing = unchanged e.0 apart ∙ was.standing; named = was.named };
      free = λ q t is here same.
          let was = kept.stands q t (others q (gone q t is) t is) in
          let joined : entry_at places (place_of clock t.tick) t.index ≡ entry_at places (place_of clock s.tick) s.index =
          ap (λ (p : ℕ). entry_at places p t.index) here ∙ ap (λ (i : ℕ). entry_at places (place_of clock s.tick) i) same in
          gone q t is (key-of key s.tick q t.tick (sym stood ∙ sym joined ∙ was));
      there = slice_get_within (slot places (place_of clock s.tick)) s.index (key, s.tick) stood;
      made = whole clock old places key s kept found;
    }
  where
    unchanged : (q : ℕ) → key ≢ q → standing_of q new ≡ standing_of q old
    unchanged q apart = rw (changed q, ne_eqb key q apart) refl

    gone : (q : ℕ) (t : Standing) → standing_of q new ≡ Some t → key ≢ q
    gone q t is same =
        let none : standing_of q new ≡ None = rw (changed q, eq-eqb key q same) refl in
        nothing-some none is

    others : (q : ℕ) → key ≢ q → (t : Standing) → standing_of q new ≡ Some t → standing_of q old ≡ Some t
    others q apart t is = sym (unchanged q apart) ∙ is

    key-of : (k t q u : ℕ) → ◌≡◌ {A = Option (ℕ × ℕ)} (Some (k, t)) (Some (q, u)) → k ≡ q
    key-of k t q u is = (some_pair_parts k q t u is).0

-- standings and places that are the same one by one
pub kept-same : (clock : Clock) (old new : List (ℕ × Standing)) (places after : Places) → KeepsPlaces clock old places
    → ((q : ℕ) → standing_of q new ≡ standing_of q old) → ((p : ℕ) → slice_index_or after p [] ≡ slice_index_or places p [])
    → (length after ≡ 1408) ⊎ (after ≡ []) → KeepsPlaces clock new after
kept-same clock old new places after kept same reads made =
    record {
      stands = λ key s is.
          ap (λ (l : List (ℕ × ℕ)). slice_get l s.index) (reads (place_of clock s.tick)) ∙ kept.stands key s (sym (same key) ∙ is);
      only = λ p i e at.
          let was = kept.only p i e (ap (λ (l : List (ℕ × ℕ)). slice_get l i) (sym (reads p)) ∙ at) in
          record { standing = same e.0 ∙ was.standing; named = was.named };
      made = made;
    }

-- ---- a key put

pub length-slice_set : (xs : Places) (i : ℕ) (y : List (ℕ × ℕ)) → length (slice_set xs i y) ≡ length xs
length-slice_set xs i y = grind (arith, common_steps)

pushed-kept : (xs : List (ℕ × ℕ)) (x : ℕ × ℕ) (i : ℕ) (e : ℕ × ℕ) → slice_get xs i ≡ Some e → slice_get (xs ++ x ∷ []) i ≡ Some e
pushed-kept [] x i e is = absurd (nothing-some refl is)
pushed-kept (y ∷ ys) x zero e is = is
pushed-kept (y ∷ ys) x (suc i) e is = pushed-kept ys x i e is

pushed-last : (xs : List (ℕ × ℕ)) (x : ℕ × ℕ) → slice_get (xs ++ x ∷ []) (length xs) ≡ Some x
pushed-last [] x = refl
pushed-last (y ∷ ys) x = pushed-last ys x

pushed-cases : (xs : List (ℕ × ℕ)) (x : ℕ × ℕ) (i : ℕ) (e : ℕ × ℕ) → slice_get (xs ++ x ∷ []) i ≡ Some e
    → (slice_get xs i ≡ Some e) ⊎ ((i ≡ length xs) × (x ≡ e))
pushed-cases [] x zero e is = inr (refl, same_Some x e is)
pushed-cases [] x (suc i) e is = absurd (nothing-some refl is)
pushed-cases (y ∷ ys) x zero e is = inl is
pushed-cases (y ∷ ys) x (suc i) e is =
    elim (pushed-cases ys x i e is) [ inl there ↦ inl there | inr end ↦ inr (ap (λ (n : ℕ). suc n) end.0, end.1) ]

-- an entry that was put behind the others of its place
record Put (places after : Places) (place key tick : ℕ) : Type 0 where
  kept : (p i : ℕ) (e : ℕ × ℕ) → entry_at places p i ≡ Some e → entry_at after p i ≡ Some e
  last : entry_at after place (length (slot places place)) ≡ Some (key, tick)
  cases : (p i : ℕ) (e : ℕ × ℕ) → entry_at after p i ≡ Some e
      → (entry_at places p i ≡ Some e) ⊎ ((p ≡ place) × (i ≡ length (slot places place)) × ((key, tick) ≡ e))
  fresh : entry_at places place (length (slot places place)) ≡ None

put-from : (places after : Places) (place key tick : ℕ) → place < length places
    → after ≡ slice_set places place (slot places place ++ (key, tick) ∷ []) → Put places after place key tick
put-from places after place key tick within put =
    let here : slot after place ≡ slot places place ++ (key, tick) ∷ [] = rw (put, get_or-set_same) refl in
    record {
      kept = λ p i e is. elim (cases_eq p place) [
        | inl same ↦ (
            ap (λ (k : ℕ). entry_at after k i) same ∙ ap (λ l. slice_get l i) here
            ∙ pushed-kept (slot places place) (key, tick) i e (ap (λ (k : ℕ). entry_at places k i) (sym same) ∙ is))
        | inr apart ↦ ap (λ l. slice_get l i) (there p apart) ∙ is
      ];
      last = ap (λ l. slice_get l (length (slot places place))) here ∙ pushed-last (slot places place) (key, tick);
      cases = λ p i e is. elim (cases_eq p place) [
        | inl same ↦ (
            let at : slice_get (slot places place ++ (key, tick) ∷ []) i ≡ Some e =
            ap (λ l. slice_get l i) (sym here) ∙ ap (λ (k : ℕ). entry_at after k i) (sym same) ∙ is in
            elim (pushed-cases (slot places place) (key, tick) i e at) [
              | inl was ↦ inl (ap (λ (k : ℕ). entry_at places k i) same ∙ was)
              | inr end ↦ inr (same, end.0, end.1)
            ])
        | inr apart ↦ inl (ap (λ l. slice_get l i) (sym (there p apart)) ∙ is)
      ];
      fresh = slice_get_past (slot places place) (length (slot places place)) (omega arith);
    }
  where
    there : (p : ℕ) → p ≢ place → slot after p ≡ slot places p
    there p apart = rw (put, get_or-set_other) refl

-- what every key has once one was put
abbrev pub placed : ℕ → Standing → ℕ → List (ℕ × Standing) → Option Standing
placed key s q standings = if key == q then Some s else standing_of q standings

placed-same : (key : ℕ) (s : Standing) (q : ℕ) (standings : List (ℕ × Standing)) → key ≡ q → placed key s q standings ≡ Some s
placed-same key s q standings same = rw (eq-eqb key q same) refl

placed-other : (key : ℕ) (s : Standing) (q : ℕ) (standings : List (ℕ × Standing)) → key ≢ q → placed key s q standings ≡ standing_of q standings
placed-other key s q standings apart = rw (ne_eqb key q apart) refl

-- each key stands somewhere once one was put
put-stands : (clock : Clock) (old new : List (ℕ × Standing)) (places after : Places) (key tick : ℕ) → KeepsPlaces clock old places
    → Put places after (place_of clock tick) key tick
    → ((q : ℕ) → standing_of q new ≡ placed key (standing tick (length (slot places (place_of clock tick)))) q old)
    → (q : ℕ) (s : Standing) → standing_of q new ≡ Some s → entry_at after (place_of clock s.tick) s.index ≡ Some (q, s.tick)
put-stands clock old new places after key tick kept put changed q s is =
    let mine : Standing = standing tick (length (slot places (place_of clock tick))) in
    elim (cases_eq key q) [
      | inl same ↦ (
          let its : s ≡ mine = same-standing s mine (sym is ∙ changed q ∙ placed-same key mine q old same) in
          ap (λ (t : Standing). entry_at after (place_of clock t.tick) t.index) its ∙ put.last
          ∙ ap (λ (k : ℕ). Some (k, tick)) same ∙ ap (λ (t : Standing). Some (q, t.tick)) (sym its))
      | inr apart ↦ (
          let was : standing_of q old ≡ Some s = sym (placed-other key mine q old apart) ∙ sym (changed q) ∙ is in
          put.kept (place_of clock s.tick) s.index (q, s.tick) (kept.stands q s was))
    ]

-- the entry that was put is its key's
put-mine : (clock : Clock) (old new : List (ℕ × Standing)) (places : Places) (key tick p i : ℕ) (e : ℕ × ℕ)
    → ((q : ℕ) → standing_of q new ≡ placed key (standing tick (length (slot places (place_of clock tick)))) q old)
    → p ≡ place_of clock tick → i ≡ length (slot places (place_of clock tick)) → (key, tick) ≡ e → StandsThere clock new p i e
put-mine clock old new places key tick p i e changed at end is =
    let mine : Standing = standing tick (length (slot places (place_of clock tick))) in
    record {
      standing =
          ap (λ (g : ℕ × ℕ). standing_of g.0 new) (sym is) ∙ changed key ∙ placed-same key mine key old refl
          ∙ ap (λ (n : ℕ). Some (standing tick n)) (sym end) ∙ ap (λ (g : ℕ × ℕ). Some (standing g.1 i)) is;
      named = ap (λ (g : ℕ × ℕ). place_of clock g.1) (sym is) ∙ sym at;
    }

-- a new key
pub set-new : (clock : Clock) (old new : List (ℕ × Standing)) (places after : Places) (key tick : ℕ) → KeepsPlaces clock old places → length places ≡ 1408
    → after ≡ slice_set places (place_of clock tick) (slot places (place_of clock tick) ++ (key, tick) ∷ []) → standing_of key old ≡ None
    → ((q : ℕ) → standing_of q new ≡ placed key (standing tick (length (slot places (place_of clock tick)))) q old) → KeepsPlaces clock new after
set-new clock old new places after key tick kept made put none changed =
    let within : place_of clock tick < length places = omega (arith, place-lt clock tick) in
    let its : Put places after (place_of clock tick) key tick = put-from places after (place_of clock tick) key tick within put in
    record {
      stands = put-stands clock old new places after key tick kept its changed;
      only = λ p i e at. elim (its.cases p i e at) [
        | inl was ↦ (
            let stood = kept.only p i e was in
            let apart : key ≢ e.0 = λ same. nothing-some (ap (λ (k : ℕ). standing_of k old) (sym same) ∙ none) stood.standing in
            record {
              standing = changed e.0 ∙ placed-other key (standing tick (length (slot places (place_of clock tick)))) e.0 old apart ∙ stood.standing;
              named = stood.named;
            })
        | inr new' ↦ put-mine clock old new places key tick p i e changed new'.0 new'.1 new'.2
      ];
      made = inl (ap (λ (l : Places). length l) put ∙ length-slice_set places (place_of clock tick) (slot places (place_of clock tick) ++ (key, tick) ∷ []) ∙ made);
    }

-- a key that has a new tick: its old entry is loose
pub set-old : (clock : Clock) (old new : List (ℕ × Standing)) (places after : Places) (key tick : ℕ) (s : Standing) → KeepsPlaces clock old places
    → length places ≡ 1408 → after ≡ slice_set places (place_of clock tick) (slot places (place_of clock tick) ++ (key, tick) ∷ [])
    → standing_of key old ≡ Some s
    → ((q : ℕ) → standing_of q new ≡ placed key (standing tick (length (slot places (place_of clock tick)))) q old)
    → IsLoose clock new after (place_of clock s.tick) s.index
set-old clock old new places after key tick s kept made put found changed =
    let within : place_of clock tick < length places = omega (arith, place-lt clock tick) in
    let its : Put places after (place_of clock tick) key tick = put-from places after (place_of clock tick) key tick within put in
    let mine : Standing = standing tick (length (slot places (place_of clock tick))) in
    let stood = kept.stands key s found in
    record {
      stands = put-stands clock old new places after key tick kept its changed;
      only = λ p i e at other. elim (its.cases p i e at) [
        | inl was ↦ (
            let there : StandsThere clock old p i e = kept.only p i e was in
            let apart : key ≢ e.0 =
            λ same.
            let same-one : s ≡ standing e.1 i = same-standing s (standing e.1 i) (sym found ∙ ap (λ (k : ℕ). standing_of k old) same ∙ there.standing) in
            other (sym there.named ∙ ap (λ (t : Standing). place_of clock t.tick) (sym same-one)) (ap (λ (t : Standing). t.index) (sym same-one)) in
            record { standing = changed e.0 ∙ placed-other key mine e.0 old apart ∙ there.standing; named = there.named })
        | inr new' ↦ put-mine clock old new places key tick p i e changed new'.0 new'.1 new'.2
      ];
      free = λ q t is here same. elim (cases_eq key q) [
        | inl one ↦ (
            let its-own : t ≡ mine = same-standing t mine (sym is ∙ changed q ∙ placed-same key mine q old one) in
            let at : place_of clock tick ≡ place_of clock s.tick = ap (λ (u : Standing). place_of clock u.tick) (sym its-own) ∙ here in
            let end : length (slot places (place_of clock tick)) ≡ s.index = ap (λ (u : Standing). u.index) (sym its-own) ∙ same in
            nothing-some (ap (λ (i : ℕ). entry_at places (place_of clock s.tick) i) (sym end) ∙ ap (λ (p : ℕ). entry_at places p (length (slot places (place_of clock tick)))) (sym at) ∙ its.fresh) stood)
        | inr apart ↦ (
            let was : standing_of q old ≡ Some t = sym (placed-other key mine q old apart) ∙ sym (changed q) ∙ is in
            let joined : entry_at places (place_of clock t.tick) t.index ≡ entry_at places (place_of clock s.tick) s.index =
            ap (λ (p : ℕ). entry_at places p t.index) here ∙ ap (λ (i : ℕ). entry_at places (place_of clock s.tick) i) same in
            apart (some_pair_parts key q s.tick t.tick (sym stood ∙ sym joined ∙ kept.stands q t was)).0)
      ];
      there = slice_get_within (slot after (place_of clock s.tick)) s.index (key, s.tick) (its.kept (place_of clock s.tick) s.index (key, s.tick) stood);
      made = ap (λ (l : Places). length l) put ∙ length-slice_set places (place_of clock tick) (slot places (place_of clock tick) ++ (key, tick) ∷ []) ∙ made;
    }

-- an entry that was put and taken away again
pub undone : (places after back : Places) (place key tick : ℕ) → place < length places
    → after ≡ slice_set places place (slot places place ++ (key, tick) ∷ [])
    → back ≡ slice_set after place (take (length (slot after place) - 1) (slot after place)) → (p : ℕ) → slot back p ≡ slot places p
undone places after back place key tick within put taken p =
    let len : length after ≡ length places = ap (λ (l : Places). length l) put ∙ length-slice_set places place (slot places place ++ (key, tick) ∷ []) in
    let still : place < length after = omega arith in
    let here : slot after place ≡ slot places place ++ (key, tick) ∷ [] = rw (put, get_or-set_same) refl in
    elim (cases_eq p place) [
      | inl same ↦ rw (same, taken, get_or-set_same, here) (taken-back (slot places place) (key, tick))
      | inr apart ↦ rw (taken, get_or-set_other, put, get_or-set_other) refl
    ]
  where
    taken-back : (xs : List (ℕ × ℕ)) (x : ℕ × ℕ) → take (length (xs ++ x ∷ []) - 1) (xs ++ x ∷ []) ≡ xs
    taken-back xs x =
        let one : length (xs ++ x ∷ []) - 1 ≡ length xs = omega (arith, length-append xs (x ∷ [])) in
        rw one (front xs x)
      where
        front : (xs : List (ℕ × ℕ)) (x : ℕ × ℕ) → take (length xs) (xs ++ x ∷ []) ≡ xs
        front [] x = refl
        front (y ∷ ys) x = ap (λ l. y ∷ l) (front ys x)

-- a key that is nowhere
pub cleared-absent : (clock : Clock) (old new : List (ℕ × Standing)) (places : Places) (key : ℕ) → KeepsPlaces clock old places → standing_of key old ≡ None
    → ((q : ℕ) → standing_of q new ≡ (if key == q then None else standing_of q old)) → KeepsPlaces clock new places
cleared-absent clock old new places key kept none changed =
    kept-same clock old new places places kept
    (λ q. elim (cases_eq key q) [
      | inl same ↦ (
          let gone : standing_of q new ≡ None = rw (changed q, eq-eqb key q same) refl in
          gone ∙ sym (ap (λ (k : ℕ). standing_of k old) (sym same) ∙ none))
      | inr apart ↦ rw (changed q, ne_eqb key q apart) refl
    ])
    (λ p. refl) kept.made

abbrev nil : List (ℕ × ℕ)
nil = []

-- places with nothing in them
pub nothing-there : (n p : ℕ) → slice_index_or (replicate n nil) p nil ≡ nil
nothing-there zero p = refl
nothing-there (suc n) zero = refl
nothing-there (suc n) (suc p) = nothing-there n p
