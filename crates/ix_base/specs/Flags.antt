-- The flag bits of a segment (RFC 9293, section 3.1).
use Rattle.std.specs.Prelude.{ℕ, Bool, ◌==◌, not, bit_and}

-- whether this bit of the flags is set
abbrev pub has_flag : ℕ → ℕ → Bool
has_flag flags bit = not (bit_and flags bit == 0)
