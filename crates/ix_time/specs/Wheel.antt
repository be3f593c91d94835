-- What the wheel keeps.
use Rattle.std.specs.Prelude.{◌≡◌, ◌≢◌, ◌<◌, ℕ, List, [], ◌⊎◌, Some, length, slice_index_or}
use Rattle.ix_time.specs.declared.places.Clock.{Clock}
use Rattle.ix_time.specs.declared.standings.Standing.{Standing}
use Rattle.ix_time.specs.Places.{place_of}
use Rattle.ix_time.specs.Standings.{standing_of}
use Rattle.ix_time.specs.Slots.{entry_at}

-- An entry is that of a key that stands there: the key has this tick and this index, and the rule names this place for the tick.
pub record StandsThere (clock : Clock) (standings : List (ℕ × Standing)) (place index : ℕ) (entry : ℕ × ℕ) : Type 0 where
  pub standing : standing_of entry.0 standings ≡ Some (record { tick = entry.1; index = index })
  pub named : place_of clock entry.1 ≡ place

-- The rule of places: each key stands at the place that the rule names for its tick, at its index there, and no place holds anything else.
pub record KeepsPlaces (clock : Clock) (standings : List (ℕ × Standing)) (places : List (List (ℕ × ℕ))) : Type 0 where
  pub stands : (key : ℕ) (s : Standing) → standing_of key standings ≡ Some s → entry_at places (place_of clock s.tick) s.index ≡ Some (key, s.tick)
  pub only : (place index : ℕ) (entry : ℕ × ℕ) → entry_at places place index ≡ Some entry → StandsThere clock standings place index entry
  -- the places are made at the first deadline
  pub made : (length places ≡ 1408) ⊎ (places ≡ [])

-- The same, but for one entry that is no key's: it is about to be taken out.
pub record IsLoose (clock : Clock) (standings : List (ℕ × Standing)) (places : List (List (ℕ × ℕ))) (place index : ℕ) : Type 0 where
  pub stands : (key : ℕ) (s : Standing) → standing_of key standings ≡ Some s → entry_at places (place_of clock s.tick) s.index ≡ Some (key, s.tick)
  pub only : (p i : ℕ) (entry : ℕ × ℕ) → entry_at places p i ≡ Some entry → (p ≡ place → i ≢ index) → StandsThere clock standings p i entry
  pub free : (key : ℕ) (s : Standing) → standing_of key standings ≡ Some s → place_of clock s.tick ≡ place → s.index ≢ index
  pub there : index < length (slice_index_or places place [])
  pub made : length places ≡ 1408
