-- A frame is the same whatever is said of packets of other protocols, but where it holds one.
use Rattle.std.proofs.Common.{◌≡◌, ℕ, List, refl, Bool, true, false, Option, Some, None}
use Rattle.std.specs.Prelude.{if◌then◌else◌, ◌==◌, not, Result, Ok, Err}
use Rattle.ix_base.specs.declared.frame.Local.{Local}
use Rattle.ix_base.specs.declared.frame.Disposition.{Disposition}
use Rattle.ix_base.specs.declared.frame.Disposition.TheVariants as dispositions
use Rattle.ix_base.specs.declared.frame.Disposition.TheVariants.{NotTcp}
use Rattle.ix_base.specs.declared.segment.Seg.{Seg}
use Rattle.ix_eth.specs.Ethernet.{Ethernet, ethernet_of, is_for}
use Rattle.ix_ip.specs.declared.packet.IpFault.{IpFault}
use Rattle.ix_ip.specs.declared.packet.IpFault.TheVariants.{Short, BadVersion, BadLength, BadSum, Fragment}
use Rattle.ix_ip.specs.Packet.{Packet, packet_of}
use Rattle.ix_seg.specs.declared.segment.SegFault.{SegFault}
use Rattle.ix_seg.specs.declared.segment.SegFault.TheVariants.{Short as SegShort, BadOffset, BadSum as SegBadSum}
use Rattle.ix_seg.specs.Segment.{Segment, segment_of}
use Rattle.ix_seg.specs.Frame.{named_segment, segment_of_packet, segment_of_read, segment_of_ethernet, segment_of_view, segment_of_frame, not_tcp, ReadsAs}

-- x is what y is, but where y is a packet of another protocol: then x is as P says
abbrev Agrees : (Result Seg Disposition → Type 0) → Result Seg Disposition → Result Seg Disposition → Type 0
Agrees P x (Ok s) = x ≡ Ok s
Agrees P x (Err NotTcp) = P x
Agrees P x (Err d) = x ≡ Err d

-- two reads that make the same test
agrees_if : (P : Result Seg Disposition → Type 0) (b : Bool) (d : Disposition) (x y : Result Seg Disposition) → Agrees P (Err d) (Err d) → Agrees P x y
    → Agrees P (if b then Err d else x) (if b then Err d else y)
agrees_if P true d x y here there = here
agrees_if P false d x y here there = there

agrees_named : (P : Result Seg Disposition → Type 0) (mac : List ℕ) (r : Result Segment SegFault) → Agrees P (named_segment mac r) (named_segment mac r)
agrees_named P mac (Ok s) = refl
agrees_named P mac (Err SegShort) = refl
agrees_named P mac (Err BadOffset) = refl
agrees_named P mac (Err SegBadSum) = refl

abbrev IsOther : (Packet → Disposition) → Packet → Result Seg Disposition → Type 0
IsOther other p x = x ≡ Err (other p)

agrees_other : (other : Packet → Disposition) (p : Packet) (b : Bool) (x y : Result Seg Disposition) → Agrees (IsOther other p) x y
    → Agrees (IsOther other p) (if b then Err (other p) else x) (if b then Err (not_tcp p) else y)
agrees_other other p true x y there = refl
agrees_other other p false x y there = there

agrees_packet : (other : Packet → Disposition) (local : Local) (check : Bool) (mac : List ℕ) (p : Packet)
    → Agrees (IsOther other p) (segment_of_packet other local check mac p) (segment_of_packet not_tcp local check mac p)
unfolding segment_of_packet
agrees_packet other local check mac p =
    agrees_if (IsOther other p) (not (p.dst == local.ip)) dispositions.NotOurs _ _ refl
    (agrees_other other p (not (p.protocol == 6)) _ _ (agrees_named (IsOther other p) mac (segment_of check p)))

-- a weaker fact of packets of other protocols
agrees_weaker : (P Q : Result Seg Disposition → Type 0) (x y : Result Seg Disposition) → (P x → Q x) → Agrees P x y → Agrees Q x y
agrees_weaker P Q x (Ok s) h a = a
agrees_weaker P Q x (Err NotTcp) h a = h a
agrees_weaker P Q x (Err d) h a = a

-- the packet of these bytes, and what is said of it
record IsRead (other : Packet → Disposition) (r : Result Packet IpFault) (x : Result Seg Disposition) : Type 0 where
  packet : Packet
  read : r ≡ Ok packet
  settled : x ≡ Err (other packet)

agrees_read : (other : Packet → Disposition) (local : Local) (check : Bool) (mac : List ℕ) (r : Result Packet IpFault)
    → Agrees (IsRead other r) (segment_of_read other local check mac r) (segment_of_read not_tcp local check mac r)
agrees_read other local check mac (Ok p) =
    agrees_weaker (IsOther other p) (IsRead other (Ok p)) _ (segment_of_packet not_tcp local check mac p)
    (λ h. record { packet = p; read = refl; settled = h }) (agrees_packet other local check mac p)
agrees_read other local check mac (Err Short) = refl
agrees_read other local check mac (Err BadVersion) = refl
agrees_read other local check mac (Err BadLength) = refl
agrees_read other local check mac (Err BadSum) = refl
agrees_read other local check mac (Err Fragment) = refl

agrees_ethernet : (other : Packet → Disposition) (local : Local) (check : Bool) (e : Ethernet)
    → Agrees (IsRead other (packet_of e.rest)) (segment_of_ethernet other local check e) (segment_of_ethernet not_tcp local check e)
unfolding segment_of_ethernet
agrees_ethernet other local check e =
    let P = IsRead other (packet_of e.rest) in
    agrees_if P (not (is_for local.mac e)) dispositions.NotOurs _ _ refl
    (agrees_if P (e.kind == 0x0806) dispositions.Arp _ _ refl
    (agrees_if P (not (e.kind == 0x0800)) dispositions.NotIp _ _ refl (agrees_read other local check e.src (packet_of e.rest))))

-- the same of the frame
record IsFramed (other : Packet → Disposition) (o : Option Ethernet) (x : Result Seg Disposition) : Type 0 where
  ethernet : Ethernet
  framed : o ≡ Some ethernet
  inside : IsRead other (packet_of ethernet.rest) x

agrees_view : (other : Packet → Disposition) (local : Local) (check : Bool) (o : Option Ethernet)
    → Agrees (IsFramed other o) (segment_of_view other local check o) (segment_of_view not_tcp local check o)
agrees_view other local check None = refl
agrees_view other local check (Some e) =
    agrees_weaker (IsRead other (packet_of e.rest)) (IsFramed other (Some e)) _ (segment_of_ethernet not_tcp local check e)
    (λ h. record { ethernet = e; framed = refl; inside = h }) (agrees_ethernet other local check e)

reads_agreed : (other : Packet → Disposition) (local : Local) (check : Bool) (frame : List ℕ) (y : Result Seg Disposition)
    → Agrees (IsFramed other (ethernet_of frame)) (segment_of_frame other local check frame) y → ReadsAs other local check frame y
reads_agreed other local check frame (Ok s) a = a
reads_agreed other local check frame (Err NotTcp) a =
    record { ethernet = a.ethernet; packet = a.inside.packet; framed = a.framed; read = a.inside.read; settled = a.inside.settled }
reads_agreed other local check frame (Err d) a = a

pub reads_as : (other : Packet → Disposition) (local : Local) (check : Bool) (frame : List ℕ)
    → ReadsAs other local check frame (segment_of_frame not_tcp local check frame)
unfolding segment_of_frame
reads_as other local check frame =
    reads_agreed other local check frame (segment_of_frame not_tcp local check frame) (agrees_view other local check (ethernet_of frame))
