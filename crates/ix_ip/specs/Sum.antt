-- The Internet checksum (RFC 1071).
use Rattle.std.specs.Prelude.{ℕ, ◌+◌, ◌*◌, ◌%◌, ◌-◌, List, [], ◌∷◌, ◌++◌, length, Bool, if◌then◌else◌, ◌==◌}
use Rattle.byteorder.specs.Endian.{big_bytes}

-- the sum of the 16-bit words that the bytes make, the first byte of each the high one; an odd end is filled with a zero byte
unfoldable pub word_sum : List ℕ → ℕ
word_sum [] = 0
word_sum (a ∷ []) = 256 * a
word_sum (a ∷ b ∷ rest) = 256 * a + b + word_sum rest

-- What a sum of words is in one's complement arithmetic, where each carry goes back in at the low end: the sum modulo 65535, from 1 to
-- 65535, and 0 for 0 alone.
unfoldable pub carried : ℕ → ℕ
carried n = if n == 0 then 0 else (n - 1) % 65535 + 1

-- the checksum: the one's complement of the one's complement sum
abbrev pub sum16_of : List ℕ → ℕ
sum16_of bytes = 65535 - carried (word_sum bytes)

-- whether bytes that hold their own checksum are as they were summed
abbrev pub is_summed : List ℕ → Bool
is_summed bytes = sum16_of bytes == 0

-- the header that TCP and UDP sum before their own bytes: the addresses, zero, the protocol and the length (RFC 9293, section 3.1;
-- RFC 768)
abbrev pub pseudo_header : ℕ → ℕ → ℕ → ℕ → List ℕ
pseudo_header src dst protocol len = big_bytes 4 src ++ big_bytes 4 dst ++ 0 ∷ protocol ∷ big_bytes 2 len

-- the checksum of TCP or UDP bytes: over the pseudo header and the bytes; it is 0 where the bytes hold their checksum
abbrev pub transport_sum_of : ℕ → ℕ → ℕ → List ℕ → ℕ
transport_sum_of src dst protocol bytes = sum16_of (pseudo_header src dst protocol (length bytes) ++ bytes)
