-- The Toeplitz hash of receive-side scaling.
use Rattle.std.specs.Prelude.{ℕ, zero, suc, ◌*◌, List, length, bit_xor, if◌then◌else◌, ◌==◌}
use Rattle.ix_hash.specs.Bits.{bit_of, bits_from}

-- the exclusive or, over each i below n where bit i of the input is 1, of the 32 key bits that start at key bit i
unfoldable pub hash_of_bits : List ℕ → List ℕ → ℕ → ℕ
hash_of_bits key input zero = 0
hash_of_bits key input (suc n) =
    if bit_of input n == 1 then bit_xor (hash_of_bits key input n) (bits_from key n 32) else hash_of_bits key input n

-- the same over all bits of the input
abbrev pub hash_of : List ℕ → List ℕ → ℕ
hash_of key input = hash_of_bits key input (8 * length input)
