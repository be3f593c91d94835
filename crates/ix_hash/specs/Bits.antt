-- The bits of bytes, the highest of each byte first.
use Rattle.std.specs.Prelude.{ℕ, zero, suc, ◌+◌, ◌*◌, ◌/◌, ◌%◌, ◌-◌, ◌^◌, List, slice_index}

-- bit i of the bytes
unfoldable pub bit_of : List ℕ → ℕ → ℕ
bit_of bytes i = slice_index bytes (i / 8) / 2 ^ (7 - i % 8) % 2

-- the number that n bits make, from bit `at` on
unfoldable pub bits_from : List ℕ → ℕ → ℕ → ℕ
bits_from bytes at zero = 0
bits_from bytes at (suc n) = 2 * bits_from bytes at n + bit_of bytes (at + n)
