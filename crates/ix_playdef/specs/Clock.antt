-- The clock of an entry of the wire list, in ticks.
use Rattle.std.specs.Prelude.{ℕ, ◌+◌, List, [], ◌∷◌, take}
use Rattle.ix_wire.specs.declared.entry.Entry.{Entry}
use Rattle.ix_wire.specs.declared.entry.Entry.TheVariants.{Time}

abbrev pub clock_after : ℕ → Entry → ℕ
clock_after clock (Time t) = t
clock_after clock _ = clock

-- the clock behind some entries, from this clock on
abbrev pub clock_from : ℕ → List Entry → ℕ
clock_from clock [] = clock
clock_from clock (e ∷ es) = clock_from (clock_after clock e) es

-- what the last time at or before the entry w sets, and 0 where there is none
abbrev pub clock_of : List Entry → ℕ → ℕ
clock_of entries w = clock_from 0 (take (w + 1) entries)
