-- Echo requests and the answers to them: ICMP echo (RFC 792) and UDP to the echo port (RFC 768), without any state.
use Rattle.std.specs.Prelude.{ℕ, ◌+◌, List, ◌∷◌, ◌++◌, length, take, drop, slice_index, Bool, ◌||◌, ◌&&◌, if◌then◌else◌, nat_le, ◌==◌}
use Rattle.byteorder.specs.Endian.{big_from, big_bytes}
use Rattle.ix_base.specs.declared.frame.Local.{Local}
use Rattle.ix_eth.specs.Ethernet.{Ethernet, ethernet_header}
use Rattle.ix_ip.specs.Sum.{is_summed, sum16_of, transport_sum_of}
use Rattle.ix_ip.specs.Packet.{Packet}
use Rattle.ix_ip.specs.Header.{ip_header}

-- an ICMP message of type 8 and code 0 with a right sum over all of it
unfoldable pub is_icmp_echo : Packet → Bool
is_icmp_echo p =
    p.protocol == 1 && nat_le 8 (length p.payload) && slice_index p.payload 0 == 8 && slice_index p.payload 1 == 0 && is_summed p.payload

-- the message with type 0 and this checksum, the rest as it was asked
abbrev pub icmp_with : List ℕ → ℕ → List ℕ
icmp_with message checksum = 0 ∷ 0 ∷ big_bytes 2 checksum ++ drop 4 message

unfoldable pub icmp_reply : List ℕ → List ℕ
icmp_reply message = icmp_with message (sum16_of (icmp_with message 0))

-- the length that a datagram's header tells, in bytes with its header
abbrev pub datagram_len : List ℕ → ℕ
datagram_len payload = big_from 4 2 payload

abbrev pub datagram_of : List ℕ → List ℕ
datagram_of payload = take (datagram_len payload) payload

-- a payload holds a datagram with its header
unfoldable pub is_datagram : List ℕ → Bool
is_datagram payload = nat_le 8 (length payload) && nat_le 8 (datagram_len payload) && nat_le (datagram_len payload) (length payload)

-- a datagram's checksum is not used, or is right over the pseudo header and the datagram
unfoldable pub is_udp_summed : Packet → Bool
is_udp_summed p = big_from 6 2 p.payload == 0 || transport_sum_of p.src p.dst 17 (datagram_of p.payload) == 0

-- a datagram to port 7 whose checksum is not wrong
unfoldable pub is_udp_echo : Packet → Bool
is_udp_echo p = p.protocol == 17 && is_datagram p.payload && big_from 2 2 p.payload == 7 && is_udp_summed p

-- a datagram's header with the ports exchanged and this checksum, and the same length
abbrev pub udp_header_with : List ℕ → ℕ → List ℕ
udp_header_with d checksum =
    slice_index d 2 ∷ slice_index d 3 ∷ slice_index d 0 ∷ slice_index d 1 ∷ slice_index d 4 ∷ slice_index d 5 ∷ big_bytes 2 checksum

-- the datagram with that header
abbrev pub udp_with : List ℕ → ℕ → List ℕ
udp_with d checksum = udp_header_with d checksum ++ drop 8 d

-- a checksum as UDP writes it: all ones for zero, which would say that there is none
abbrev pub shown : ℕ → ℕ
shown checksum = if checksum == 0 then 0xffff else checksum

-- the answer of this address to that one
unfoldable pub udp_reply : ℕ → ℕ → List ℕ → List ℕ
udp_reply src dst d = udp_with d (shown (transport_sum_of src dst 17 (udp_with d 0)))

-- the frame of a packet with this payload, back to where a packet came from
abbrev pub answer_frame : Ethernet → Packet → Local → ℕ → List ℕ → List ℕ
answer_frame e p local protocol payload =
    ethernet_header e.src local.mac 0x0800 ++ (ip_header local.ip p.src protocol (20 + length payload) ++ payload)

abbrev pub icmp_answer : Ethernet → Packet → Local → List ℕ
icmp_answer e p local = answer_frame e p local 1 (icmp_reply p.payload)

abbrev pub udp_answer : Ethernet → Packet → Local → List ℕ
udp_answer e p local = answer_frame e p local 17 (udp_reply local.ip p.src (datagram_of p.payload))
