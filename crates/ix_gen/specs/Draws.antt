-- The numbers that a generated play draws: the linear congruential generator of Numerical Recipes (Press and others, second edition,
-- section 7.1), of which the high bits are used.
use Rattle.std.specs.Prelude.{ℕ, ◌+◌, ◌*◌, ◌/◌, ◌%◌, ◌^◌}

-- the state behind one draw
unfoldable pub next : ℕ → ℕ
next x = (1664525 * x + 1013904223) % 2 ^ 32

-- the length that a state gives, from 1 to 1,000 bytes
unfoldable pub drawn : ℕ → ℕ
drawn x = 1 + x / 65536 % 1000
