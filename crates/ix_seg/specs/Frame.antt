-- What a frame is: one segment for this machine or one disposition. The tests are made in this order, and the first that applies
-- decides: Ethernet (RFC 894), ARP (RFC 826), IPv4 (RFC 791), TCP (RFC 9293).
use Rattle.std.specs.Prelude.{◌≡◌, ◌≤◌, ◌+◌, ℕ, List, length, take, drop, Bool, not, Option, Some, None, option_and_then, Result, Ok, Err, if◌then◌else◌, ◌==◌}
use Rattle.ix_base.specs.declared.frame.Local.{Local}
use Rattle.ix_base.specs.declared.frame.Disposition.{Disposition}
use Rattle.ix_base.specs.declared.frame.Disposition.TheVariants as dispositions
use Rattle.ix_base.specs.declared.frame.Disposition.TheVariants.{NotTcp}
use Rattle.ix_base.specs.declared.id.Flow.{Flow}
use Rattle.ix_base.specs.declared.segment.Seg.{Seg}
use Rattle.ix_eth.specs.Ethernet.{Ethernet, ethernet_of, is_for}
use Rattle.ix_ip.specs.declared.packet.IpFault.{IpFault}
use Rattle.ix_ip.specs.declared.packet.IpFault.TheVariants.{Short, BadVersion, BadLength, BadSum, Fragment}
use Rattle.ix_ip.specs.Packet.{Packet, packet_of, flow_behind}
use Rattle.ix_seg.specs.declared.segment.SegFault.{SegFault}
use Rattle.ix_seg.specs.declared.segment.SegFault.TheVariants.{Short as SegShort, BadOffset, BadSum as SegBadSum}
use Rattle.ix_seg.specs.Segment.{Segment, segment_of, head_of}

abbrev pub disposition_of_ip : IpFault → Disposition
disposition_of_ip Short = dispositions.BadIpShort
disposition_of_ip BadVersion = dispositions.BadIpVersion
disposition_of_ip BadLength = dispositions.BadIpLength
disposition_of_ip BadSum = dispositions.BadIpSum
disposition_of_ip Fragment = dispositions.BadIpFragment

abbrev pub disposition_of_tcp : SegFault → Disposition
disposition_of_tcp SegShort = dispositions.BadTcpShort
disposition_of_tcp BadOffset = dispositions.BadTcpOffset
disposition_of_tcp SegBadSum = dispositions.BadTcpSum

-- the segment from this hardware address, or the fault by its name
abbrev pub named_segment : List ℕ → Result Segment SegFault → Result Seg Disposition
named_segment mac (Ok s) = Ok (record { head = head_of mac s; body = s.body })
named_segment mac (Err fault) = Err (disposition_of_tcp fault)

-- What a packet in a frame from this hardware address is. `other` says it of packets for this machine whose protocol is not TCP: which
-- of them are echo requests, and that the rest are not TCP.
unfoldable pub segment_of_packet : (Packet → Disposition) → Local → Bool → List ℕ → Packet → Result Seg Disposition
segment_of_packet other local check mac p =
    if not (p.dst == local.ip) then Err dispositions.NotOurs
    else if not (p.protocol == 6) then Err (other p)
    else named_segment mac (segment_of check p)

abbrev pub segment_of_read : (Packet → Disposition) → Local → Bool → List ℕ → Result Packet IpFault → Result Seg Disposition
segment_of_read other local check mac (Ok p) = segment_of_packet other local check mac p
segment_of_read other local check mac (Err fault) = Err (disposition_of_ip fault)

unfoldable pub segment_of_ethernet : (Packet → Disposition) → Local → Bool → Ethernet → Result Seg Disposition
segment_of_ethernet other local check e =
    if not (is_for local.mac e) then Err dispositions.NotOurs
    else if e.kind == 0x0806 then Err dispositions.Arp
    else if not (e.kind == 0x0800) then Err dispositions.NotIp
    else segment_of_read other local check e.src (packet_of e.rest)

abbrev pub segment_of_view : (Packet → Disposition) → Local → Bool → Option Ethernet → Result Seg Disposition
segment_of_view other local check None = Err dispositions.NotIp
segment_of_view other local check (Some e) = segment_of_ethernet other local check e

-- what the bytes of a frame are; the TCP checksum is tested only where that is wanted
unfoldable pub segment_of_frame : (Packet → Disposition) → Local → Bool → List ℕ → Result Seg Disposition
segment_of_frame other local check frame = segment_of_view other local check (ethernet_of frame)

-- packets of other protocols, where echo requests are not told apart
abbrev pub not_tcp : Packet → Disposition
not_tcp p = dispositions.NotTcp

-- the frame holds a packet for this machine whose protocol is not TCP, and is what `other` says of that packet
pub record HoldsOther (other : Packet → Disposition) (local : Local) (check : Bool) (frame : List ℕ) : Type 0 where
  pub ethernet : Ethernet
  pub packet : Packet
  pub framed : ethernet_of frame ≡ Some ethernet
  pub read : packet_of ethernet.rest ≡ Ok packet
  pub settled : segment_of_frame other local check frame ≡ Err (other packet)

-- what a frame is where echo requests are told apart, by what it is where they are not
abbrev pub ReadsAs : (Packet → Disposition) → Local → Bool → List ℕ → Result Seg Disposition → Type 0
ReadsAs other local check frame (Ok s) = segment_of_frame other local check frame ≡ Ok s
ReadsAs other local check frame (Err NotTcp) = HoldsOther other local check frame
ReadsAs other local check frame (Err d) = segment_of_frame other local check frame ≡ Err d

-- the flow that a frame names: that of a packet without a fault whose protocol is TCP, whether it is a segment or not
unfoldable pub flow_of_frame : List ℕ → Option Flow
flow_of_frame frame = option_and_then (λ e. flow_behind e.kind e.rest) (ethernet_of frame)

-- A segment's body is these of its frame's bytes, and lies within them.
pub record LiesWithin (frame : List ℕ) (s : Seg) : Type 0 where
  pub len : s.head.len ≡ length s.body
  pub within : s.head.at + s.head.len ≤ length frame
  pub body : s.body ≡ take s.head.len (drop s.head.at frame)

abbrev pub SegmentsLieWithin : Type 0
SegmentsLieWithin =
    (other : Packet → Disposition) (local : Local) (check : Bool) (frame : List ℕ) (s : Seg) → segment_of_frame other local check frame ≡ Ok s → LiesWithin frame s

abbrev pub SegmentsNameTheirFlow : Type 0
SegmentsNameTheirFlow =
    (other : Packet → Disposition) (local : Local) (check : Bool) (frame : List ℕ) (s : Seg) → segment_of_frame other local check frame ≡ Ok s
    → flow_of_frame frame ≡ Some s.head.flow
