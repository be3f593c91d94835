-- The rule of places: where in the wheel a tick stands, and which places a due call empties.
use Rattle.std.specs.Prelude.{ℕ, ◌+◌, ◌-◌, ◌*◌, ◌/◌, ◌%◌, ◌==◌, nat_le, nat_lt, ◌&&◌, ◌||◌, zero, suc, Bool, not, if◌then◌else◌}
use Rattle.ix_time.specs.declared.places.Clock.{Clock}

-- The level of a tick, where so many levels stand above the lowest one: that of the highest group of six bits in which it and the clock differ, or
-- the lowest where they are the same.
unfoldable pub level_in : ℕ → ℕ → ℕ → ℕ
level_in zero clock tick = 0
level_in (suc above) clock tick = if clock / 64 == tick / 64 then 0 else suc (level_in above (clock / 64) (tick / 64))

-- the level among eleven: six for what differs from the clock in the low 36 bits alone, and five more up to all 64 bits
abbrev pub level_of : ℕ → ℕ → ℕ
level_of clock tick = level_in 10 clock tick

-- the six bits of the tick that name its slot on a level
unfoldable pub slot_of : ℕ → ℕ → ℕ
slot_of zero tick = tick % 64
slot_of (suc level) tick = slot_of level (tick / 64)

-- The place of a tick in a wheel with this clock: the slots of the levels follow one another, the lowest level first.
unfoldable pub place_in : ℕ → ℕ → ℕ
place_in clock tick = 64 * level_of clock tick + slot_of (level_of clock tick) tick

-- What comes after the latest tick stands in the first wheel, by that tick; what is at most the latest stands in the second wheel, by the last tick.
unfoldable pub place_of : Clock → ℕ → ℕ
place_of clock tick = if nat_le tick clock.latest then 704 + place_in clock.last tick else place_in clock.latest tick

-- a deadline stands at this place, at this clock
abbrev pub stands_at : Clock → ℕ → (ℕ × ℕ) → Bool
stands_at clock place entry = place_of clock entry.1 == place

-- The places of a wheel that its turn from its clock to `now` empties, where so many levels stand above the lowest one: those below the highest
-- group of six bits in which the two differ; from that level on those up to the slot of `now`; and on that level the one where the old clock stands.
unfoldable pub empties_in : ℕ → ℕ → ℕ → ℕ → Bool
empties_in zero clock now place = nat_le place now || place == clock % 64
empties_in (suc above) clock now place =
    if nat_lt place 64 then (not (clock / 64 == now / 64) || nat_le place (now % 64)) || place == clock % 64
    else empties_in above (clock / 64) (now / 64) (place - 64)

-- A due call turns the first wheel where `now` comes after its clock. It empties the second wheel where `now` is not behind the latest tick, and else
-- turns it.
unfoldable pub empties : Clock → ℕ → ℕ → Bool
empties clock now place =
    if nat_lt place 704 then nat_lt clock.latest now && empties_in 10 clock.latest now place
    else nat_le clock.latest now || empties_in 10 clock.last now (place - 704)
