-- Ticks.
use Rattle.std.specs.Prelude.{ℕ, ◌+◌, ◌-◌, ◌^◌, min}

-- the tick that is so many after now, or the last tick
abbrev pub later : ℕ → ℕ → ℕ
later now ticks = min (now + ticks) (2 ^ 64 - 1)
