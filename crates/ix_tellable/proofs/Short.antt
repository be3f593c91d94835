-- The answers to strays are short.
use Rattle.std.proofs.Common.{◌≡◌, ℕ, suc, ◌+◌, ◌<◌, ◌≤◌, ◌^◌, refl, sym, ap, subst, List, [], ◌∷◌, ◌++◌, inl, inr, length, take, drop, arith, length-append, Bool, true, false}
use Rattle.std.specs.Prelude.{All, IfOk, IfSome, Option, Some, None, option_map, option_and_then, Result, Ok, Err, nat_lt, if◌then◌else◌, ◌&&◌, ◌==◌, not}
use Rattle.std.proofs.lemmas.List.{length-take, length-drop}
use Rattle.std.proofs.lemmas.List.Elements.{All-cons, All-nil}
use Rattle.byteorder.specs.Endian.{big_bytes}
use Rattle.ix_base.specs.declared.frame.Disposition.{Disposition}
use Rattle.ix_base.specs.declared.frame.Disposition.TheVariants as kinds
use Rattle.ix_base.specs.declared.frame.Local.{Local}
use Rattle.ix_base.specs.declared.segment.Seg.{Seg}
use Rattle.ix_base.specs.declared.segment.SegHead.{SegHead}
use Rattle.ix_eth.specs.Arp.{arp_answer_of, arp_reply, is_request_for}
use Rattle.ix_eth.specs.Ethernet.{Ethernet, ethernet_header, ethernet_of, ethernet_parts, is_for}
use Rattle.ix_groupdef.specs.declared.types.Stray.{Stray}
use Rattle.ix_groupdef.specs.declared.types.Taken.{Taken}
use Rattle.ix_groupdef.specs.Group.{read_of}
use Rattle.ix_groupdef.specs.Setting.{Setting}
use Rattle.ix_groupdef.specs.Strays.{echo_in, echoed, frame_of_head, is_served, reply_to, reset_for, reset_head}
use Rattle.ix_groupdef.specs.StrayFrames.{AreStraysOf, BecomesAs}
use Rattle.ix_ip.specs.Header.{ip_header}
use Rattle.ix_ip.specs.Packet.{Packet, PayloadsLieWithin, packet_of}
use Rattle.ix_ip.specs.Sum.{transport_sum_of}
use Rattle.ix_ip.specs.declared.packet.IpFault.{IpFault}
use Rattle.ix_seg.specs.Frame.{named_segment, segment_of_ethernet, segment_of_frame, segment_of_packet, segment_of_read, segment_of_view}
use Rattle.ix_seg.specs.Segment.{Segment, segment_of}
use Rattle.ix_seg.specs.Written.{frame_bytes, mss_option, segment_bytes, segment_with, tcp_header_with}
use Rattle.ix_seg.specs.declared.segment.SegFault.{SegFault}
use Rattle.ix_side.specs.Echo.{datagram_len, datagram_of, icmp_answer, icmp_reply, udp_answer, udp_reply}
use Rattle.ix_side.specs.Side.{side_of}
use Rattle.ix_base.specs.Flags.{has_flag}
use Rattle.ix_base.specs.declared.segment.TheConstants.{ACK, RST}
use Rattle.ix_playdef.specs.Replies.{IsShortIfAny, IsShortlyAnswered}

-- ## Lengths of what is put together
small : (n : ℕ) → n ≤ 4096 → n < 2 ^ 32
small n le = omega (arith, le)

length-ip_header : (src dst protocol total : ℕ) → length (ip_header src dst protocol total) ≡ 20
unfolding ip_header
length-ip_header src dst protocol total = refl

header-long : (dst src : List ℕ) (kind : ℕ) → length dst ≤ 6 → length src ≤ 6 → length (ethernet_header dst src kind) ≤ 14
header-long dst src kind d s =
    let two : length (big_bytes 2 kind) ≡ 2 = refl in
    omega (arith, length-append (dst ++ src) (big_bytes 2 kind), length-append dst src, two, d, s)

framed-long : (dst src rest : List ℕ) (kind s d protocol total : ℕ) → length dst ≤ 6 → length src ≤ 6
    → length (ethernet_header dst src kind ++ (ip_header s d protocol total ++ rest)) ≤ 34 + length rest
framed-long dst src rest kind s d protocol total ld ls =
    omega (arith, length-append (ethernet_header dst src kind) (ip_header s d protocol total ++ rest), length-append (ip_header s d protocol total) rest, length-ip_header s d protocol total, header-long dst src kind ld ls)

-- ## Resets
-- a header of 20 bytes alone
bare-long : (h : SegHead) → h.mss ≡ None → length (segment_bytes h []) ≡ 20
unfolding segment_bytes
bare-long h none = ap (λ o. length (tcp_header_with h (transport_sum_of h.flow.local h.flow.remote 6 (segment_with h [] 0)) ++ mss_option o ++ [])) none

frame-short : (h : SegHead) (local : Local) → h.mss ≡ None → length h.peer_mac ≤ 6 → length local.mac ≤ 6 → length (frame_bytes h local []) < 2 ^ 32
unfolding frame_bytes
frame-short h local none p m =
    small _ (omega (arith, framed-long h.peer_mac local.mac (segment_bytes h []) 0x0800 h.flow.local h.flow.remote 6 (20 + length (segment_bytes h [])) p m, bare-long h none))

-- what a head has that a reset is made of
record IsReset (h : SegHead) : Type 0 where
  bare : h.mss ≡ None
  mac : length h.peer_mac ≤ 6

any-reset : (env : Setting) (o : Option SegHead) → length env.local.mac ≤ 6 → IfSome o IsReset → IsShortIfAny (option_map (frame_of_head env) o)
any-reset env None m is = tt
any-reset env (Some h) m is = frame-short h env.local is.bare is.mac m

reset-is : (h : SegHead) (seq ack flags : ℕ) → length h.peer_mac ≤ 6 → IsReset (reset_head h seq ack flags)
reset-is h seq ack flags le = record { bare = refl; mac = le }

if_some : (P : SegHead → Type 0) (b : Bool) (o p : Option SegHead) → IfSome o P → IfSome p P → IfSome (if b then o else p) P
if_some P true o p h k = h
if_some P false o p h k = k

resets-are : (env : Setting) (h : SegHead) → length h.peer_mac ≤ 6 → IfSome (reset_for env h) IsReset
unfolding reset_for
resets-are env h le =
    if_some IsReset (has_flag h.flags RST) None _ tt
    (if_some IsReset (has_flag h.flags ACK) (Some (reset_head h h.ack 0 RST)) _ (reset-is h h.ack 0 RST le)
    (if_some IsReset (is_served env h) None _ tt (reset-is h 0 _ _ le)))

-- ## The sender of a segment has a hardware address of six bytes
abbrev HasMac : Seg → Type 0
HasMac s = length s.head.peer_mac ≤ 6

if_ok : (b : Bool) (d : Disposition) (m : Result Seg Disposition) → IfOk m HasMac → IfOk (if b then Err d else m) HasMac
if_ok true d m h = tt
if_ok false d m h = h

mac-named : (mac : List ℕ) (r : Result Segment SegFault) → length mac ≤ 6 → IfOk (named_segment mac r) HasMac
mac-named mac (Ok s) le = le
mac-named mac (Err fault) le = tt

mac-packet : (other : Packet → Disposition) (local : Local) (check : Bool) (mac : List ℕ) (p : Packet) → length mac ≤ 6
    → IfOk (segment_of_packet other local check mac p) HasMac
unfolding segment_of_packet
mac-packet other local check mac p le =
    if_ok (not (p.dst == local.ip)) kinds.NotOurs _ (if_ok (not (p.protocol == 6)) (other p) _ (mac-named mac (segment_of check p) le))

mac-read : (other : Packet → Disposition) (local : Local) (check : Bool) (mac : List ℕ) (r : Result Packet IpFault) → length mac ≤ 6
    → IfOk (segment_of_read other local check mac r) HasMac
mac-read other local check mac (Ok p) le = mac-packet other local check mac p le
mac-read other local check mac (Err fault) le = tt

mac-ethernet : (other : Packet → Disposition) (local : Local) (check : Bool) (e : Ethernet) → length e.src ≤ 6
    → IfOk (segment_of_ethernet other local check e) HasMac
unfolding segment_of_ethernet
mac-ethernet other local check e le =
    if_ok (not (is_for local.mac e)) kinds.NotOurs _
    (if_ok (e.kind == 0x0806) kinds.Arp _ (if_ok (not (e.kind == 0x0800)) kinds.NotIp _ (mac-read other local check e.src (packet_of e.rest) le)))

-- what a frame's parts are
record ArePartsOf (frame : List ℕ) (e : Ethernet) : Type 0 where
  src : length e.src ≤ 6
  rest : length e.rest ≤ length frame

parts-of : (frame : List ℕ) → IfSome (ethernet_of frame) (ArePartsOf frame)
unfolding ethernet_of
parts-of frame = step (nat_lt (length frame) 14) where
  step : (b : Bool) → IfSome (if b then None else Some (ethernet_parts frame)) (ArePartsOf frame)
  step true = tt
  step false = record { src = omega (arith, length-take 6 (drop 6 frame)); rest = omega (arith, length-drop 14 frame) }

mac-view : (other : Packet → Disposition) (local : Local) (check : Bool) (frame : List ℕ) (o : Option Ethernet) → IfSome o (ArePartsOf frame)
    → IfOk (segment_of_view other local check o) HasMac
mac-view other local check frame None is = tt
mac-view other local check frame (Some e) is = mac-ethernet other local check e is.src

mac-frame : (other : Packet → Disposition) (local : Local) (check : Bool) (frame : List ℕ) → IfOk (segment_of_frame other local check frame) HasMac
unfolding segment_of_frame
mac-frame other local check frame = mac-view other local check frame (ethernet_of frame) (parts-of frame)

-- ## ARP and echo
arp-long : (local : Local) (mac ip : List ℕ) → length local.mac ≤ 6 → length mac ≤ 6 → length ip ≤ 4 → length (arp_reply local mac ip) ≤ 100
arp-long local mac ip m l i =
    let eth : List ℕ = ethernet_header mac local.mac 0x0806 in
    let fixed : List ℕ = 0 ∷ 1 ∷ 8 ∷ 0 ∷ 6 ∷ 4 ∷ 0 ∷ 2 ∷ [] in
    let four : length (big_bytes 4 local.ip) ≡ 4 = refl in
    let eight : length fixed ≡ 8 = refl in
    omega (arith, header-long mac local.mac 0x0806 l m, four, eight, m, l, i, length-append eth fixed, length-append (eth ++ fixed) local.mac, length-append (eth ++ fixed ++ local.mac) (big_bytes 4 local.ip), length-append (eth ++ fixed ++ local.mac ++ big_bytes 4 local.ip) mac, length-append (eth ++ fixed ++ local.mac ++ big_bytes 4 local.ip ++ mac) ip)

arp-short : (local : Local) (e : Ethernet) → length local.mac ≤ 6 → IsShortIfAny (arp_answer_of local e)
unfolding arp_answer_of
arp-short local e m = step (is_for local.mac e && e.kind == 0x0806 && is_request_for local.ip e.rest) where
  answer : Option (List ℕ)
  answer = Some (arp_reply local (take 6 (drop 8 e.rest)) (take 4 (drop 14 e.rest)))

  step : (b : Bool) → IsShortIfAny (if b then answer else None)
  step true =
      let long = arp-long local (take 6 (drop 8 e.rest)) (take 4 (drop 14 e.rest)) m (omega (arith, length-take 6 (drop 8 e.rest))) (omega (arith, length-take 4 (drop 14 e.rest))) in
      small _ (omega (arith, long))
  step false = tt

arp-any : (local : Local) (o : Option Ethernet) → length local.mac ≤ 6 → IsShortIfAny (option_and_then (arp_answer_of local) o)
arp-any local None m = tt
arp-any local (Some e) m = arp-short local e m

icmp-long : (message : List ℕ) → length (icmp_reply message) ≤ 4 + length message
unfolding icmp_reply
icmp-long message = omega (arith, length-drop 4 message)

udp-long : (src dst : ℕ) (d : List ℕ) → length (udp_reply src dst d) ≤ 8 + length d
unfolding udp_reply
udp-long src dst d = omega (arith, length-drop 8 d)

icmp-short : PayloadsLieWithin → (local : Local) (frame : List ℕ) (e : Ethernet) (p : Packet) → length local.mac ≤ 6 → length frame ≤ 2048 → ArePartsOf frame e → packet_of e.rest ≡ Ok p
    → length (icmp_answer e p local) < 2 ^ 32
icmp-short within local frame e p m f is read =
    small _ (omega (arith, framed-long e.src local.mac (icmp_reply p.payload) 0x0800 local.ip p.src 1 (20 + length (icmp_reply p.payload)) is.src m, icmp-long p.payload, (within e.rest p read).within, (within e.rest p read).behind, is.rest, f))

udp-short : PayloadsLieWithin → (local : Local) (frame : List ℕ) (e : Ethernet) (p : Packet) → length local.mac ≤ 6 → length frame ≤ 2048 → ArePartsOf frame e → packet_of e.rest ≡ Ok p
    → length (udp_answer e p local) < 2 ^ 32
udp-short within local frame e p m f is read =
    let reply : List ℕ = udp_reply local.ip p.src (datagram_of p.payload) in
    small _ (omega (arith, framed-long e.src local.mac reply 0x0800 local.ip p.src 17 (20 + length reply) is.src m, udp-long local.ip p.src (datagram_of p.payload), length-take (datagram_len p.payload) p.payload, (within e.rest p read).within, (within e.rest p read).behind, is.rest, f))

abbrev IsShortEcho : (Ethernet → Packet → Local → List ℕ) → Local → List ℕ → Type 0
IsShortEcho answer local frame = (e : Ethernet) (p : Packet) → ArePartsOf frame e → packet_of e.rest ≡ Ok p → length (answer e p local) < 2 ^ 32

echo-in : (answer : Ethernet → Packet → Local → List ℕ) (local : Local) (frame : List ℕ) (e : Ethernet) (r : Result Packet IpFault) → IsShortEcho answer local frame
    → ArePartsOf frame e → packet_of e.rest ≡ r → IsShortIfAny (echo_in answer local e r)
echo-in answer local frame e (Ok p) short is read = short e p is read
echo-in answer local frame e (Err fault) short is read = tt

echo-any : (answer : Ethernet → Packet → Local → List ℕ) (local : Local) (frame : List ℕ) (o : Option Ethernet) → IsShortEcho answer local frame
    → IfSome o (ArePartsOf frame) → IsShortIfAny (echoed answer local o)
echo-any answer local frame None short is = tt
echo-any answer local frame (Some e) short is = echo-in answer local frame e (packet_of e.rest) short is refl

other-short : PayloadsLieWithin → (local : Local) (kind : Disposition) (frame : List ℕ) → length local.mac ≤ 6 → length frame ≤ 2048 → IsShortIfAny (reply_to local kind frame)
other-short within local kinds.Arp frame m f = arp-any local (ethernet_of frame) m
other-short within local kinds.IcmpEcho frame m f = echo-any icmp_answer local frame (ethernet_of frame) (λ e p is read. icmp-short within local frame e p m f is read) (parts-of frame)
other-short within local kinds.UdpEcho frame m f = echo-any udp_answer local frame (ethernet_of frame) (λ e p is read. udp-short within local frame e p m f is read) (parts-of frame)
other-short within local kinds.NotIp frame m f = tt
other-short within local kinds.NotOurs frame m f = tt
other-short within local kinds.BadIpShort frame m f = tt
other-short within local kinds.BadIpVersion frame m f = tt
other-short within local kinds.BadIpLength frame m f = tt
other-short within local kinds.BadIpSum frame m f = tt
other-short within local kinds.BadIpFragment frame m f = tt
other-short within local kinds.NotTcp frame m f = tt
other-short within local kinds.BadTcpShort frame m f = tt
other-short within local kinds.BadTcpOffset frame m f = tt
other-short within local kinds.BadTcpSum frame m f = tt
other-short within local kinds.Closed frame m f = tt
other-short within local kinds.Full frame m f = tt

-- ## Strays
short-as : PayloadsLieWithin → (env : Setting) (t : Taken) (r : Result Seg Disposition) (stray : Stray) → length env.local.mac ≤ 6 → length t.frame ≤ 2048 → IfOk r HasMac
    → BecomesAs env t r stray → IsShortlyAnswered stray
short-as within env t (Ok s) stray m f mac is = subst IsShortIfAny (sym is.1) (any-reset env (reset_for env s.head) m (resets-are env s.head mac))
short-as within env t (Err kind) stray m f mac is = subst IsShortIfAny (sym is.1) (other-short within env.local kind t.frame m f)

pub strays-short : PayloadsLieWithin → (env : Setting) (ss : List Stray) (ts : List Taken) → length env.local.mac ≤ 6 → All (λ (t : Taken). length t.frame ≤ 2048) ts
    → AreStraysOf env ss ts → All IsShortlyAnswered ss
strays-short within env [] ts m all are = All-nil IsShortlyAnswered
strays-short within env (s ∷ ss) [] m all are = absurd are
strays-short within env (s ∷ ss) (t ∷ ts) m all (inl are) =
    All-cons IsShortlyAnswered s ss
    (short-as within env t (read_of env t.frame) s m (all 0 t (omega arith)) (mac-frame side_of env.local env.check t.frame) are.0.fate)
    (strays-short within env ss ts m (λ k d h. all (suc k) d (omega arith)) are.1)
strays-short within env (s ∷ ss) (t ∷ ts) m all (inr are) = strays-short within env (s ∷ ss) ts m (λ k d h. all (suc k) d (omega arith)) are
