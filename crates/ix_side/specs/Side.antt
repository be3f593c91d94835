-- What a packet of another protocol than TCP is, and its answer.
use Rattle.std.specs.Prelude.{◌≡◌, ◌≢◌, ℕ, List, length, take, drop, if◌then◌else◌, Some, Ok}
use Rattle.byteorder.specs.Endian.{big_from}
use Rattle.ix_base.specs.declared.frame.Local.{Local}
use Rattle.ix_base.specs.declared.frame.Disposition.{Disposition}
use Rattle.ix_base.specs.declared.frame.Disposition.TheVariants as dispositions
use Rattle.ix_eth.specs.Ethernet.{Ethernet, ethernet_of}
use Rattle.ix_ip.specs.Packet.{Packet, packet_of}
use Rattle.ix_ip.specs.Sum.{sum16_of, transport_sum_of}
use Rattle.ix_side.specs.declared.side.Side.{Side}
use Rattle.ix_side.specs.declared.side.Side.TheVariants.{IcmpEcho, UdpEcho, NotTcp}
use Rattle.ix_side.specs.Echo.{is_icmp_echo, is_udp_echo, icmp_answer, icmp_reply, udp_answer, udp_reply, datagram_of}

-- The disposition of a packet for this machine whose protocol is not TCP: the first of these that applies.
unfoldable pub side_of : Packet → Disposition
side_of p = if is_icmp_echo p then dispositions.IcmpEcho else if is_udp_echo p then dispositions.UdpEcho else dispositions.NotTcp

abbrev pub disposition_of : Side → Disposition
disposition_of (IcmpEcho len) = dispositions.IcmpEcho
disposition_of (UdpEcho len) = dispositions.UdpEcho
disposition_of NotTcp = dispositions.NotTcp

-- `len` bytes of a buffer were written, and are this frame
pub record IsWritten (frame : List ℕ) (len : ℕ) (old new : List ℕ) : Type 0 where
  pub written : take len new ≡ frame
  pub whole : len ≡ length frame
  pub rest : drop len new ≡ drop len old

-- an answer is in the buffer where there is one, and nothing was written where there is none
abbrev pub Answers : Ethernet → Packet → Local → List ℕ → List ℕ → Side → Type 0
Answers e p local old new (IcmpEcho len) = IsWritten (icmp_answer e p local) len old new
Answers e p local old new (UdpEcho len) = IsWritten (udp_answer e p local) len old new
Answers e p local old new NotTcp = new ≡ old

-- what the receiver of an answer reads: a packet without a fault, from this machine to where the request came from
pub record IsReadBy (e : Ethernet) (p : Packet) (local : Local) (protocol : ℕ) (payload frame : List ℕ) : Type 0 where
  pub rest : List ℕ
  pub ethernet : ethernet_of frame ≡ Some (record { dst = e.src; src = local.mac; kind = 0x0800; rest = rest })
  pub packet : packet_of rest ≡ Ok (record { src = local.ip; dst = p.src; protocol = protocol; at = 34; payload = payload })

-- an ICMP answer has a right sum
pub record IsRightIcmp (e : Ethernet) (p : Packet) (local : Local) (reply frame : List ℕ) : Type 0 where
  pub read : IsReadBy e p local 1 reply frame
  pub sum : sum16_of reply ≡ 0

-- a UDP answer has a checksum, which is right
pub record IsRightUdp (e : Ethernet) (p : Packet) (local : Local) (reply frame : List ℕ) : Type 0 where
  pub read : IsReadBy e p local 17 reply frame
  pub sum : transport_sum_of local.ip p.src 17 reply ≡ 0
  pub summed : big_from 6 2 reply ≢ 0

abbrev pub IsRight : Ethernet → Packet → Local → List ℕ → Side → Type 0
IsRight e p local new (IcmpEcho len) = IsRightIcmp e p local (icmp_reply p.payload) (take len new)
IsRight e p local new (UdpEcho len) = IsRightUdp e p local (udp_reply local.ip p.src (datagram_of p.payload)) (take len new)
IsRight e p local new NotTcp = Unit {0}
