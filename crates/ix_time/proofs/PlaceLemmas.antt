-- The rule of places: what a wheel's turn does to it.
use Rattle.std.proofs.Common.{◌≡◌, ◌≢◌, ◌<◌, ◌≤◌, ◌+◌, ◌-◌, ◌*◌, ◌/◌, ◌%◌, ◌==◌, ◌&&◌, ◌||◌, nat_le, nat_lt, Bool, true, false, not, ℕ, zero, suc, if◌then◌else◌, refl, ap, sym, ◌∙◌, inl, inr, arith}
use Rattle.std.proofs.lemmas.Bool.{le-leb, lt-leb, lt-ltb, le-ltb, leb-false, eq-eqb, ne_eqb, eqb-true, cases_eq, cases_lt, or_cases, or_parts, or_left, or_right, and_parts, not-false}
use Rattle.ix_time.specs.declared.places.Clock.{Clock}
use Rattle.ix_time.specs.Places.{level_in, slot_of, place_in, place_of, empties_in, empties}

-- the place, by groups of six bits from the lowest on
unfoldable pub spot : ℕ → ℕ → ℕ → ℕ
spot zero clock tick = tick % 64
spot (suc above) clock tick = if clock / 64 == tick / 64 then tick % 64 else 64 + spot above (clock / 64) (tick / 64)

pub spot-top : (clock tick : ℕ) → spot zero clock tick ≡ tick % 64
unfolding spot
spot-top clock tick = refl

pub spot-same : (above clock tick : ℕ) → clock / 64 ≡ tick / 64 → spot (suc above) clock tick ≡ tick % 64
unfolding spot
spot-same above clock tick same = rw (eq-eqb (clock / 64) (tick / 64) same) refl

pub spot-apart : (above clock tick : ℕ) → clock / 64 ≢ tick / 64 → spot (suc above) clock tick ≡ 64 + spot above (clock / 64) (tick / 64)
unfolding spot
spot-apart above clock tick apart = rw (ne_eqb (clock / 64) (tick / 64) apart) refl

pub spot-lt : (above clock tick : ℕ) → spot above clock tick < 64 * (above + 1)
spot-lt zero clock tick = omega (arith, spot-top clock tick)
spot-lt (suc above) clock tick =
    elim (cases_eq (clock / 64) (tick / 64)) [
      | inl same ↦ omega (arith, spot-same above clock tick same)
      | inr apart ↦ omega (arith, spot-apart above clock tick apart, spot-lt above (clock / 64) (tick / 64))
    ]

-- the rule in levels and slots says the same
level-top : (clock tick : ℕ) → level_in zero clock tick ≡ 0
unfolding level_in
level-top clock tick = refl

level-same : (above clock tick : ℕ) → clock / 64 ≡ tick / 64 → level_in (suc above) clock tick ≡ 0
unfolding level_in
level-same above clock tick same = rw (eq-eqb (clock / 64) (tick / 64) same) refl

level-apart : (above clock tick : ℕ) → clock / 64 ≢ tick / 64 → level_in (suc above) clock tick ≡ suc (level_in above (clock / 64) (tick / 64))
unfolding level_in
level-apart above clock tick apart = rw (ne_eqb (clock / 64) (tick / 64) apart) refl

slot-first : (tick : ℕ) → slot_of zero tick ≡ tick % 64
unfolding slot_of
slot-first tick = refl

slot-next : (level tick : ℕ) → slot_of (suc level) tick ≡ slot_of level (tick / 64)
unfolding slot_of
slot-next level tick = refl

spot-level : (above clock tick : ℕ) → spot above clock tick ≡ 64 * level_in above clock tick + slot_of (level_in above clock tick) tick
spot-level zero clock tick = omega (arith, spot-top clock tick, level-top clock tick, ap (λ (k : ℕ). slot_of k tick) (level-top clock tick), slot-first tick)
spot-level (suc above) clock tick =
    elim (cases_eq (clock / 64) (tick / 64)) [
      | inl same ↦ omega (arith, spot-same above clock tick same, level-same above clock tick same, ap (λ (k : ℕ). slot_of k tick) (level-same above clock tick same), slot-first tick)
      | inr apart ↦ omega (
        arith,
        spot-apart above clock tick apart,
        level-apart above clock tick apart,
        ap (λ (k : ℕ). slot_of k tick) (level-apart above clock tick apart),
        slot-next (level_in above (clock / 64) (tick / 64)) tick,
        spot-level above (clock / 64) (tick / 64),
      )
    ]

pub place-spot : (clock tick : ℕ) → place_in clock tick ≡ spot 10 clock tick
unfolding place_in
place-spot clock tick = sym (spot-level 10 clock tick)

pub place_in-lt : (clock tick : ℕ) → place_in clock tick < 704
place_in-lt clock tick = omega (arith, place-spot clock tick, spot-lt 10 clock tick)

-- for a loop over the levels
pub spot-step_same : (above clock tick : ℕ) → 0 < above → clock / 64 ≡ tick / 64 → spot above clock tick ≡ tick % 64
spot-step_same zero clock tick more same = absurd (omega arith)
spot-step_same (suc above) clock tick more same = spot-same above clock tick same

pub spot-step_apart : (above clock tick : ℕ) → 0 < above → clock / 64 ≢ tick / 64
    → spot above clock tick ≡ 64 + spot (above - 1) (clock / 64) (tick / 64)
spot-step_apart zero clock tick more apart = absurd (omega arith)
spot-step_apart (suc above) clock tick more apart =
    let one : suc above - 1 ≡ above = omega arith in
    spot-apart above clock tick apart ∙ ap (λ (k : ℕ). 64 + spot k (clock / 64) (tick / 64)) (sym one)

pub spot-end : (above clock tick : ℕ) → above ≡ 0 → spot above clock tick ≡ tick % 64
spot-end zero clock tick none = spot-top clock tick
spot-end (suc above) clock tick none = absurd (omega arith)

-- ---- what a turn empties

pub empties-top : (clock now place : ℕ) → empties_in zero clock now place ≡ (nat_le place now || place == clock % 64)
unfolding empties_in
empties-top clock now place = refl

pub empties-low : (above clock now place : ℕ) → place < 64
    → empties_in (suc above) clock now place ≡ ((not (clock / 64 == now / 64) || nat_le place (now % 64)) || place == clock % 64)
unfolding empties_in
empties-low above clock now place low = rw (lt-ltb place 64 low) refl

pub empties-high : (above clock now place : ℕ) → 64 ≤ place → empties_in (suc above) clock now place ≡ empties_in above (clock / 64) (now / 64) (place - 64)
unfolding empties_in
empties-high above clock now place high = rw (le-ltb place 64 high) refl

-- the same, 64 places on
empties-next : (above clock now place : ℕ) → empties_in (suc above) clock now (64 + place) ≡ empties_in above (clock / 64) (now / 64) place
empties-next above clock now place =
    let back : (64 + place) - 64 ≡ place = omega arith in
    empties-high above clock now (64 + place) (omega arith) ∙ ap (λ (k : ℕ). empties_in above (clock / 64) (now / 64) k) back

-- what stands where a turn empties nothing comes after now, and stands there still
pub record Stays (above clock now tick : ℕ) : Type 0 where
  pub after : now < tick
  pub there : spot above now tick ≡ spot above clock tick

pub spot-stays : (above clock now tick : ℕ) → empties_in above clock now (spot above clock tick) ≡ false → Stays above clock now tick
spot-stays zero clock now tick kept =
    let at = rw (spot-top clock tick, empties-top clock now (tick % 64)) at kept in
    let later = leb-false (tick % 64) now (or_parts (nat_le (tick % 64) now) (tick % 64 == clock % 64) at).0 in
    record { after = omega arith; there = spot-top now tick ∙ sym (spot-top clock tick) }
spot-stays (suc above) clock now tick kept =
    elim (cases_eq (clock / 64) (tick / 64)) [
      | inl same ↦ (
          let at = rw (spot-same above clock tick same, empties-low above clock now (tick % 64) (omega arith)) at kept in
          let first = or_parts (not (clock / 64 == now / 64) || nat_le (tick % 64) (now % 64)) (tick % 64 == clock % 64) at in
          let second = or_parts (not (clock / 64 == now / 64)) (nat_le (tick % 64) (now % 64)) first.0 in
          let level : clock / 64 ≡ now / 64 = eqb-true (clock / 64) (now / 64) (not-false (clock / 64 == now / 64) second.0) in
          let later : now % 64 < tick % 64 = leb-false (tick % 64) (now % 64) second.1 in
          let near : now / 64 ≡ tick / 64 = omega arith in
          record { after = omega arith; there = spot-same above now tick near ∙ sym (spot-same above clock tick same) })
      | inr apart ↦ (
          let at = rw (spot-apart above clock tick apart, empties-next above clock now (spot above (clock / 64) (tick / 64))) at kept in
          let rest : Stays above (clock / 64) (now / 64) (tick / 64) = spot-stays above (clock / 64) (now / 64) (tick / 64) at in
          let later : now / 64 < tick / 64 = rest.after in
          let far : now / 64 ≢ tick / 64 = λ e. absurd (omega arith) in
          record {
            after = omega arith;
            there = spot-apart above now tick far ∙ ap (λ (k : ℕ). 64 + k) rest.there ∙ sym (spot-apart above clock tick apart);
          })
    ]

-- the place where the old clock stands once the clock is now is emptied
pub spot-old : (above clock now : ℕ) → empties_in above clock now (spot above now clock) ≡ true
spot-old zero clock now =
    rw (spot-top now clock, empties-top clock now (clock % 64)) (or_right (nat_le (clock % 64) now) (clock % 64 == clock % 64) (eq-eqb (clock % 64) (clock % 64) refl))
spot-old (suc above) clock now =
    elim (cases_eq (now / 64) (clock / 64)) [
      | inl same ↦ (
          let low : clock % 64 < 64 = omega arith in
          rw (spot-same above now clock same, empties-low above clock now (clock % 64) low)
          (or_right (not (clock / 64 == now / 64) || nat_le (clock % 64) (now % 64)) (clock % 64 == clock % 64) (eq-eqb (clock % 64) (clock % 64) refl)))
      | inr apart ↦ (
          rw (spot-apart above now clock apart, empties-next above clock now (spot above (now / 64) (clock / 64))) (spot-old above (clock / 64) (now / 64)))
    ]

-- what stands where a turn empties, and comes after now, comes to a place that it empties
pub spot-moves : (above clock now tick : ℕ) → empties_in above clock now (spot above clock tick) ≡ true → now < tick
    → empties_in above clock now (spot above now tick) ≡ true
spot-moves zero clock now tick gone after = rw (spot-top now tick, ← spot-top clock tick) gone
spot-moves (suc above) clock now tick gone after =
    elim (cases_eq (now / 64) (tick / 64)) [
      | inl near ↦ elim (cases_eq (clock / 64) (now / 64)) [
        | inl same ↦ (
            let also : clock / 64 ≡ tick / 64 = omega arith in
            rw (spot-same above now tick near, ← spot-same above clock tick also) gone)
        | inr other ↦ (
            let low : tick % 64 < 64 = omega arith in
            rw (spot-same above now tick near, empties-low above clock now (tick % 64) low)
            (or_left (not (clock / 64 == now / 64) || nat_le (tick % 64) (now % 64)) (tick % 64 == clock % 64)
            (or_left (not (clock / 64 == now / 64)) (nat_le (tick % 64) (now % 64)) (ap not (ne_eqb (clock / 64) (now / 64) other)))))
      ]
      | inr far ↦ elim (cases_eq (clock / 64) (tick / 64)) [
        | inl same ↦ (
            rw (spot-apart above now tick far, empties-next above clock now (spot above (now / 64) (tick / 64)), ← same) (spot-old above (clock / 64) (now / 64)))
        | inr apart ↦ (
            let at = rw (spot-apart above clock tick apart, empties-next above clock now (spot above (clock / 64) (tick / 64))) at gone in
            rw (spot-apart above now tick far, empties-next above clock now (spot above (now / 64) (tick / 64)))
            (spot-moves above (clock / 64) (now / 64) (tick / 64) at (omega arith)))
      ]
    ]

-- ---- both wheels

-- the clock of the first wheel goes on to now, or stays where now is behind it; that of the second one is now
pub record Advances (clock : Clock) (now : ℕ) (next : Clock) : Type 0 where
  pub stays : now ≤ clock.latest → next.latest ≡ clock.latest
  pub on : clock.latest < now → next.latest ≡ now
  pub last : next.last ≡ now

pub place-over : (clock : Clock) (tick : ℕ) → tick ≤ clock.latest → place_of clock tick ≡ 704 + place_in clock.last tick
unfolding place_of
place-over clock tick le = rw (le-leb tick clock.latest le) refl

pub place-ahead : (clock : Clock) (tick : ℕ) → clock.latest < tick → place_of clock tick ≡ place_in clock.latest tick
unfolding place_of
place-ahead clock tick lt = rw (lt-leb tick clock.latest lt) refl

pub place-lt : (clock : Clock) (tick : ℕ) → place_of clock tick < 1408
place-lt clock tick =
    elim (cases_lt clock.latest tick) [
      | inl lt ↦ omega (arith, place-ahead clock tick lt, place_in-lt clock.latest tick)
      | inr le ↦ omega (arith, place-over clock tick le, place_in-lt clock.last tick)
    ]

empties-ahead : (clock : Clock) (now place : ℕ) → place < 704 → empties clock now place ≡ (nat_lt clock.latest now && empties_in 10 clock.latest now place)
unfolding empties
empties-ahead clock now place lt = rw (lt-ltb place 704 lt) refl

empties-over : (clock : Clock) (now place : ℕ) → empties clock now (704 + place) ≡ (nat_le clock.latest now || empties_in 10 clock.last now place)
unfolding empties
empties-over clock now place =
    let high : 704 ≤ 704 + place = omega arith in
    let back : (704 + place) - 704 ≡ place = omega arith in
    rw (le-ltb (704 + place) 704 high, back) refl

pub record Remains (clock : Clock) (now : ℕ) (next : Clock) (tick : ℕ) : Type 0 where
  pub after : now < tick
  pub there : place_of next tick ≡ place_of clock tick

pub place-stays : (clock : Clock) (now : ℕ) (next : Clock) (tick : ℕ) → Advances clock now next → empties clock now (place_of clock tick) ≡ false
    → Remains clock now next tick
place-stays clock now next tick advances kept =
    elim (cases_lt clock.latest tick) [
      | inl ahead ↦ elim (cases_lt clock.latest now) [
        | inl turns ↦ (
            let at = rw (place-ahead clock tick ahead, empties-ahead clock now (place_in clock.latest tick) (place_in-lt clock.latest tick), lt-ltb clock.latest now turns, place-spot clock.latest tick) at kept in
            let rest : Stays 10 clock.latest now tick = spot-stays 10 clock.latest now tick at in
            let after : now < tick = rest.after in
            let later : next.latest < tick = omega (arith, advances.on turns) in
            record {
              after = after;
              there =
                  place-ahead next tick later ∙ ap (λ (k : ℕ). place_in k tick) (advances.on turns) ∙ place-spot now tick ∙ rest.there
                  ∙ sym (place-ahead clock tick ahead ∙ place-spot clock.latest tick);
            })
        | inr behind ↦ (
            let later : next.latest < tick = omega (arith, advances.stays behind) in
            record {
              after = omega arith;
              there = place-ahead next tick later ∙ ap (λ (k : ℕ). place_in k tick) (advances.stays behind) ∙ sym (place-ahead clock tick ahead);
            })
      ]
      | inr over ↦ (
          let at = rw (place-over clock tick over, empties-over clock now (place_in clock.last tick), place-spot clock.last tick) at kept in
          let parts = or_parts (nat_le clock.latest now) (empties_in 10 clock.last now (spot 10 clock.last tick)) at in
          let behind : now < clock.latest = leb-false clock.latest now parts.0 in
          let rest : Stays 10 clock.last now tick = spot-stays 10 clock.last now tick parts.1 in
          let same : next.latest ≡ clock.latest = advances.stays (omega arith) in
          let still : tick ≤ next.latest = omega arith in
          record {
            after = rest.after;
            there =
                place-over next tick still ∙ ap (λ (k : ℕ). 704 + place_in k tick) advances.last ∙ ap (λ (k : ℕ). 704 + k) (place-spot now tick ∙ rest.there)
                ∙ sym (place-over clock tick over ∙ ap (λ (k : ℕ). 704 + k) (place-spot clock.last tick));
          })
    ]

pub place-moves : (clock : Clock) (now : ℕ) (next : Clock) (tick : ℕ) → Advances clock now next → empties clock now (place_of clock tick) ≡ true → now < tick
    → empties clock now (place_of next tick) ≡ true
place-moves clock now next tick advances gone after =
    elim (cases_lt clock.latest tick) [
      | inl ahead ↦ (
          let at = rw (place-ahead clock tick ahead, empties-ahead clock now (place_in clock.latest tick) (place_in-lt clock.latest tick), place-spot clock.latest tick) at gone in
          let parts = and_parts (nat_lt clock.latest now) (empties_in 10 clock.latest now (spot 10 clock.latest tick)) at in
          elim (cases_lt clock.latest now) [
            | inl turns ↦ (
                let later : next.latest < tick = omega (arith, advances.on turns) in
                rw (place-ahead next tick later, advances.on turns, empties-ahead clock now (place_in now tick) (place_in-lt now tick), lt-ltb clock.latest now turns, place-spot now tick)
                (spot-moves 10 clock.latest now tick parts.1 after))
            | inr behind ↦ absurd (true_and_false (nat_lt clock.latest now) parts.0 (le-ltb clock.latest now behind))
          ])
      | inr over ↦ (
          let at = rw (place-over clock tick over, empties-over clock now (place_in clock.last tick), place-spot clock.last tick) at gone in
          let behind : now ≤ clock.latest = omega arith in
          let same : next.latest ≡ clock.latest = advances.stays behind in
          let still : tick ≤ next.latest = omega arith in
          rw (place-over next tick still, advances.last, empties-over clock now (place_in now tick), place-spot now tick)
          (elim (or_cases (nat_le clock.latest now) (empties_in 10 clock.last now (spot 10 clock.last tick)) at) [
            | inl all ↦ or_left (nat_le clock.latest now) (empties_in 10 clock.last now (spot 10 now tick)) all
            | inr turned ↦ or_right (nat_le clock.latest now) (empties_in 10 clock.last now (spot 10 now tick)) (spot-moves 10 clock.last now tick turned after)
          ]))
    ]
  where
    true_and_false : (b : Bool) → b ≡ true → b ≡ false → ⊥
    true_and_false b is isnt = let impossible : true ≡ false = sym is ∙ isnt in cc

-- for a loop over the levels
pub empties-step_low : (above clock now place : ℕ) → 0 < above → place < 64
    → empties_in above clock now place ≡ ((not (clock / 64 == now / 64) || nat_le place (now % 64)) || place == clock % 64)
empties-step_low zero clock now place more low = absurd (omega arith)
empties-step_low (suc above) clock now place more low = empties-low above clock now place low

pub empties-step_high : (above clock now place : ℕ) → 0 < above → 64 ≤ place
    → empties_in above clock now place ≡ empties_in (above - 1) (clock / 64) (now / 64) (place - 64)
empties-step_high zero clock now place more high = absurd (omega arith)
empties-step_high (suc above) clock now place more high =
    let one : suc above - 1 ≡ above = omega arith in
    empties-high above clock now place high ∙ ap (λ (k : ℕ). empties_in k (clock / 64) (now / 64) (place - 64)) (sym one)

pub empties-end : (above clock now place : ℕ) → above ≡ 0 → empties_in above clock now place ≡ (nat_le place now || place == clock % 64)
empties-end zero clock now place none = empties-top clock now place
empties-end (suc above) clock now place none = absurd (omega arith)

-- what the tests of `||` come to, one by one
pub or-first : (a b c v : Bool) → v ≡ true → v ≡ (a || b) → v ≡ ((a || b) || c)
or-first a b c v yes' is = rw (← is, yes') refl

pub or-last : (a b c v : Bool) → v ≡ false → v ≡ (a || b) → c ≡ ((a || b) || c)
or-last a b c v no' is = rw (← is, no') refl
