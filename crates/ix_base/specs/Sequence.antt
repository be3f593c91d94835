-- Sequence numbers modulo 2^32, and the positions that they stand for (RFC 9293, section 3.4).
use Rattle.std.specs.Prelude.{◌≡◌, ℕ, ◌+◌, ◌-◌, ◌%◌, ◌^◌, ◌<◌, ◌≤◌, Bool, nat_lt, ◌&&◌, ℤ, pos, negsuc, ◌+ℤ◌, ◌-ℤ◌, ◌*ℤ◌, int_lt, int_le, if◌then◌else◌}

-- the number of a position that is counted from the initial number start
abbrev pub number : ℕ → ℕ → ℕ
number start position = (start + position) % 2 ^ 32

-- how far the number x is past the number base, going up modulo 2^32
abbrev pub ahead : ℕ → ℕ → ℕ
ahead base x = (x + (2 ^ 32 - base)) % 2 ^ 32

-- The number in -2^31 .. 2^31 - 1 that is x - base modulo 2^32. This is the one place where a field of 32 bits is read against a position:
-- a field x that is tested against the position p stands for p + offset (number start p) x.
abbrev pub offset : ℕ → ℕ → ℤ
offset base x = if nat_lt (ahead base x) (2 ^ 31) then pos (ahead base x) else pos (ahead base x) -ℤ pos (2 ^ 32)

-- base < x
unfoldable pub is_past : ℕ → ℕ → Bool
is_past base x = int_lt (pos 0) (offset base x)

-- base <= x
unfoldable pub is_at_or_past : ℕ → ℕ → Bool
is_at_or_past base x = int_le (pos 0) (offset base x)

-- how far an octet that stands at this distance from RCV.NXT stands past it, and how far before it
abbrev pub past_of : ℤ → ℕ
past_of (pos n) = n
past_of (negsuc n) = 0

abbrev pub behind_of : ℤ → ℕ
behind_of (pos n) = 0
behind_of (negsuc n) = n + 1

-- an octet that stands at RCV.NXT
abbrev pub is_next : ℤ → Bool
is_next octet = int_le (pos 0) octet && int_le octet (pos 0)

-- RCV.NXT <= the octet < RCV.NXT + RCV.WND
abbrev pub lies_in : ℕ → ℤ → Bool
lies_in window octet = int_le (pos 0) octet && int_lt octet (pos window)

-- equal modulo 2^32
pub record IsCongruent (a b : ℤ) : Type 0 where
  pub turns : ℤ
  pub equal : a ≡ b +ℤ (turns *ℤ pos (2 ^ 32))

-- The order of positions is read from their numbers: where base is the number of position p and x that of position q, counted from
-- one start, and q is less than 2^31 ahead of p and at most 2^31 behind it, the offset is q - p.
abbrev pub IsDistance : ℕ → ℕ → ℤ → Type 0
IsDistance base x offset =
    (start p q : ℕ) → base ≡ (start + p) % 2 ^ 32 → x ≡ (start + q) % 2 ^ 32 → q < p + 2 ^ 31 → p ≤ q + 2 ^ 31 → offset ≡ pos q -ℤ pos p
