-- The IPv4 header that is written: 20 bytes, service 0, identification 0, no fragments, time to live 64.
use Rattle.std.specs.Prelude.{◌≡◌, ℕ, ◌+◌, List, ◌∷◌, ◌++◌, length, Ok}
use Rattle.byteorder.specs.Endian.{big_bytes}
use Rattle.ix_ip.specs.Sum.{sum16_of}
use Rattle.ix_ip.specs.Packet.{packet_of}

-- the header with this checksum in it
abbrev pub header_with : ℕ → ℕ → ℕ → ℕ → ℕ → List ℕ
header_with src dst protocol total checksum =
    69 ∷ 0 ∷ big_bytes 2 total ++ 0 ∷ 0 ∷ 64 ∷ 0 ∷ 64 ∷ protocol ∷ big_bytes 2 checksum ++ big_bytes 4 src ++ big_bytes 4 dst

unfoldable pub ip_header : ℕ → ℕ → ℕ → ℕ → List ℕ
ip_header src dst protocol total = header_with src dst protocol total (sum16_of (header_with src dst protocol total 0))

-- the header and a payload of the length that it tells are a packet with no fault and with these parts
abbrev pub IsPacketHeader : ℕ → ℕ → ℕ → ℕ → List ℕ → Type 0
IsPacketHeader src dst protocol total header =
    (payload : List ℕ) → total ≡ 20 + length payload
    → packet_of (header ++ payload) ≡ Ok (record { src = src; dst = dst; protocol = protocol; at = 34; payload = payload })
