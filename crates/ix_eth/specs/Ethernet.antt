-- Ethernet II frames (RFC 894).
use Rattle.std.specs.Prelude.{◌≡◌, ℕ, List, [], ◌∷◌, ◌++◌, length, take, drop, Bool, ◌||◌, Option, Some, None, if◌then◌else◌, nat_lt, bytes_eq}
use Rattle.byteorder.specs.Endian.{big_from, big_bytes}

-- the destination's and the source's hardware address, the type, and the bytes behind these fourteen
pub record Ethernet : Type 0 where
  pub dst : List ℕ
  pub src : List ℕ
  pub kind : ℕ
  pub rest : List ℕ

abbrev pub ethernet_parts : List ℕ → Ethernet
ethernet_parts frame = record { dst = take 6 frame; src = take 6 (drop 6 frame); kind = big_from 12 2 frame; rest = drop 14 frame }

-- the frame that these bytes are, if there are enough of them
unfoldable pub ethernet_of : List ℕ → Option Ethernet
ethernet_of frame = if nat_lt (length frame) 14 then None else Some (ethernet_parts frame)

abbrev pub broadcast : List ℕ
broadcast = 255 ∷ 255 ∷ 255 ∷ 255 ∷ 255 ∷ 255 ∷ []

-- whether a frame is meant for the card with this hardware address: it alone, or all
abbrev pub is_for : List ℕ → Ethernet → Bool
is_for mac frame = bytes_eq frame.dst mac || bytes_eq frame.dst broadcast

-- the header of a frame
abbrev pub ethernet_header : List ℕ → List ℕ → ℕ → List ℕ
ethernet_header dst src kind = dst ++ src ++ big_bytes 2 kind

-- a header and what stands behind it are a frame with these parts
abbrev pub IsHeader : List ℕ → List ℕ → ℕ → List ℕ → Type 0
IsHeader dst src kind header =
    (rest : List ℕ) → ethernet_of (header ++ rest) ≡ Some (record { dst = dst; src = src; kind = kind; rest = rest })
