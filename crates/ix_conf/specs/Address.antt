-- Hardware addresses and IPv4 addresses as text. A text is the list of its bytes.
use Rattle.std.specs.Prelude.{ℕ, ◌+◌, ◌-◌, ◌*◌, ◌==◌, ◌&&◌, ◌||◌, not, nat_le, nat_lt, Bool, if◌then◌else◌, List, [], ◌∷◌, length, take, drop, slice_index, position, Option, Some, None, option_and_then}

-- the value of a hexadecimal digit, in either case
abbrev pub hex_digit : ℕ → Option ℕ
hex_digit letter =
    if nat_le 48 letter && nat_le letter 57 then Some (letter - 48)
    else if nat_le 97 letter && nat_le letter 102 then Some (letter - 97 + 10)
    else if nat_le 65 letter && nat_le letter 70 then Some (letter - 65 + 10)
    else None

-- the byte of two digits
abbrev pub byte_of : Option ℕ → Option ℕ → Option ℕ
byte_of (Some high) (Some low) = Some (16 * high + low)
byte_of _ _ = None

abbrev pub hex_pair : ℕ → ℕ → Option ℕ
hex_pair high low = byte_of (hex_digit high) (hex_digit low)

infixl 10 ◌>>=◌
abbrev pub ◌>>=◌ : {A B : Type 0} → Option A → (A → Option B) → Option B
o >>= f = option_and_then f o

-- a colon stands at a place
abbrev pub has_colon : List ℕ → ℕ → Bool
has_colon text at = slice_index text at == 58

-- the byte of the two digits from a place on
abbrev pub byte_at : List ℕ → ℕ → Option ℕ
byte_at text at = hex_pair (slice_index text at) (slice_index text (at + 1))

-- six pairs of hexadecimal digits, joined by colons
unfoldable pub mac_of : List ℕ → Option (List ℕ)
mac_of text =
    if not (length text == 17) then None
    else if not (slice_index text 2 == 58) || not (slice_index text 5 == 58) || not (slice_index text 8 == 58) || not (slice_index text 11 == 58) || not (slice_index text 14 == 58) then None
    else do
      a ← hex_pair (slice_index text 0) (slice_index text 1)
      b ← hex_pair (slice_index text 3) (slice_index text 4)
      c ← hex_pair (slice_index text 6) (slice_index text 7)
      d ← hex_pair (slice_index text 9) (slice_index text 10)
      e ← hex_pair (slice_index text 12) (slice_index text 13)
      f ← hex_pair (slice_index text 15) (slice_index text 16)
      Some (a ∷ b ∷ c ∷ d ∷ e ∷ f ∷ [])

abbrev pub is_digit : ℕ → Bool
is_digit letter = nat_le 48 letter && nat_le letter 57

-- A value and the digits behind it. No digit stands behind a zero, and the value stays below 256.
abbrev pub octet_from : ℕ → List ℕ → Option ℕ
octet_from value [] = Some value
octet_from value (digit ∷ rest) =
    if not (is_digit digit) || value == 0 then None
    else if nat_lt 255 (10 * value + (digit - 48)) then None
    else octet_from (10 * value + (digit - 48)) rest

-- the number of decimal digits, from 0 to 255 and without leading zeros
abbrev pub octet_of : List ℕ → Option ℕ
octet_of [] = None
octet_of (digit ∷ rest) = if not (is_digit digit) then None else octet_from (digit - 48) rest

abbrev pub split_at : List ℕ → Option ℕ → List ℕ × List ℕ
split_at text (Some at) = (take at text, drop (at + 1) text)
split_at text None = (text, [])

-- what stands before the first dot and what stands behind it
abbrev pub split_at_dot : List ℕ → List ℕ × List ℕ
split_at_dot text = split_at text (position (λ letter. letter == 46) text)

abbrev pub address_of : Option ℕ → Option ℕ → Option ℕ → Option ℕ → Option ℕ
address_of (Some a) (Some b) (Some c) (Some d) = Some (((a * 256 + b) * 256 + c) * 256 + d)
address_of _ _ _ _ = None

-- four numbers joined by dots, the first of them highest
unfoldable pub ip_of : List ℕ → Option ℕ
ip_of text =
    let first = split_at_dot text in
    let second = split_at_dot first.1 in
    let third = split_at_dot second.1 in
    address_of (octet_of first.0) (octet_of second.0) (octet_of third.0) (octet_of third.1)
