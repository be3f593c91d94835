-- IPv4 packets (RFC 791, section 3.1).
use Rattle.std.specs.Prelude.{ℕ, ◌≡◌, ◌≤◌, ◌+◌, ◌*◌, ◌/◌, ◌%◌, ◌-◌, List, length, take, drop, slice_index, not, ◌||◌, ◌&&◌, Option, Some, None, Result, Ok, Err, if◌then◌else◌, nat_lt, nat_le, ◌==◌}
use Rattle.byteorder.specs.Endian.{big_from}
use Rattle.ix_base.specs.declared.id.Flow.{Flow}
use Rattle.ix_ip.specs.declared.packet.IpFault.{IpFault}
use Rattle.ix_ip.specs.declared.packet.IpFault.TheVariants as faults
use Rattle.ix_ip.specs.Sum.{is_summed}

-- The addresses, the protocol and the payload of a packet. Its bytes begin at place 14 of their frame, and its payload at place `at`.
pub record Packet : Type 0 where
  pub src : ℕ
  pub dst : ℕ
  pub protocol : ℕ
  pub at : ℕ
  pub payload : List ℕ

-- the header's length: the low half of the first byte, in words of four bytes
abbrev pub header_len : List ℕ → ℕ
header_len bytes = 4 * (slice_index bytes 0 % 16)

abbrev pub total_len : List ℕ → ℕ
total_len bytes = big_from 2 2 bytes

-- the more-fragments bit and the fragment offset together: the low 14 bits but the highest, which forbids fragments
abbrev pub fragment_bits : List ℕ → ℕ
fragment_bits bytes = big_from 6 2 bytes % 0x4000

abbrev pub packet_parts : List ℕ → Packet
packet_parts bytes = record {
  src = big_from 12 4 bytes;
  dst = big_from 16 4 bytes;
  protocol = slice_index bytes 9;
  at = 14 + header_len bytes;
  payload = take (total_len bytes - header_len bytes) (drop (header_len bytes) bytes);
}

-- the packet that the bytes behind an Ethernet header are, or the first fault in this order; bytes past its total length are padding
unfoldable pub packet_of : List ℕ → Result Packet IpFault
packet_of bytes =
    if nat_lt (length bytes) 20 then Err faults.Short
    else if not (slice_index bytes 0 / 16 == 4) then Err faults.BadVersion
    else if nat_lt (header_len bytes) 20 || nat_lt (total_len bytes) (header_len bytes) || nat_lt (length bytes) (total_len bytes) then Err faults.BadLength
    else if not (is_summed (take (header_len bytes) bytes)) then Err faults.BadSum
    else if not (fragment_bits bytes == 0) then Err faults.Fragment
    else Ok (packet_parts bytes)

-- A packet's payload is these of the bytes that it is read from, behind a header of at least 20 bytes, and lies within them.
pub record LiesWithin (bytes : List ℕ) (p : Packet) : Type 0 where
  -- how long the header is
  pub start : ℕ
  pub behind : 20 ≤ start
  pub at : p.at ≡ 14 + start
  pub within : start + length p.payload ≤ length bytes
  pub payload : p.payload ≡ take (length p.payload) (drop start bytes)

abbrev pub PayloadsLieWithin : Type 0
PayloadsLieWithin = (bytes : List ℕ) (p : Packet) → packet_of bytes ≡ Ok p → LiesWithin bytes p

-- The flow that a packet names: a packet of protocol 6 with the four bytes of two ports at the head of its payload. It was sent by the
-- remote end.
abbrev pub flow_of_packet : Packet → Option Flow
flow_of_packet p =
    if p.protocol == 6 && nat_le 4 (length p.payload)
    then Some (record { remote = p.src; local = p.dst; remote_port = big_from 0 2 p.payload; local_port = big_from 2 2 p.payload })
    else None

-- the flow that the bytes behind an Ethernet header of this type name: none where they are no packet
abbrev pub flow_of_read : Result Packet IpFault → Option Flow
flow_of_read (Ok p) = flow_of_packet p
flow_of_read (Err fault) = None

abbrev pub flow_behind : ℕ → List ℕ → Option Flow
flow_behind kind bytes = if kind == 0x0800 then flow_of_read (packet_of bytes) else None
