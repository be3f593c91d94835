-- A segment that a frame of bytes holds is framed, and its window has 16 bits.
use Rattle.std.proofs.Common.{◌≡◌, ℕ, zero, suc, ◌+◌, ◌-◌, ◌<◌, ◌≤◌, ◌^◌, refl, subst, Bool, true, false, List, [], ◌∷◌, length, take, drop, arith}
use Rattle.std.specs.Prelude.{if◌then◌else◌, ◌==◌, ◌&&◌, ◌||◌, not, nat_lt, slice_index, Result, Ok, Err, Some, None}
use Rattle.std.proofs.lemmas.Bool.Decides.{nat_tests}
use Rattle.std.proofs.lemmas.List.{length-take, length-drop}
use Rattle.ix_base.specs.declared.frame.Local.{Local}
use Rattle.ix_base.specs.declared.frame.Disposition.{Disposition}
use Rattle.ix_base.specs.declared.frame.Disposition.TheVariants as d
use Rattle.ix_base.specs.declared.segment.Seg.{Seg}
use Rattle.ix_eth.specs.Ethernet.{Ethernet, ethernet_of, ethernet_parts, is_for}
use Rattle.ix_ip.specs.declared.packet.IpFault.{IpFault}
use Rattle.ix_ip.specs.declared.packet.IpFault.TheVariants as ipf
use Rattle.ix_ip.specs.Sum.{is_summed, transport_sum_of}
use Rattle.ix_ip.specs.Packet.{Packet, packet_of, packet_parts, fragment_bits}
use Rattle.ix_ip.specs.Packet as ip
use Rattle.ix_playdef.specs.Sound.{AreBytes}
use Rattle.ix_seg.specs.declared.segment.SegFault.{SegFault}
use Rattle.ix_seg.specs.declared.segment.SegFault.TheVariants as segf
use Rattle.ix_seg.specs.Segment.{Segment, segment_at, segment_of, head_of, header_len}
use Rattle.ix_seg.specs.Frame.{segment_of_frame, segment_of_view, segment_of_ethernet, segment_of_read, segment_of_packet, named_segment}
use Rattle.ix_tcpdef.specs.Needs.{IsFramed}

-- ## A segment that a frame holds is framed
ok_same : {A B : Type 0} (a b : A) → (let r : Result A B = Ok a in r) ≡ Ok b → a ≡ b
ok_same a b e = cc

-- a test that decides for a fault was false, where there is none
passed : {A B : Type 0} (b : Bool) (x : B) (r : Result A B) (a : A) → (if b then Err x else r) ≡ Ok a → (b ≡ false) × (r ≡ Ok a)
passed true x r a e = absurd (cc)
passed false x r a e = (refl, e)

neither : (a b : Bool) → (a || b) ≡ false → (a ≡ false) × (b ≡ false)
neither false false e = (refl, refl)
neither false true e = absurd (cc)
neither true b e = absurd (cc)

not_below : (a b : ℕ) → nat_lt a b ≡ false → b ≤ a
not_below a b e = grind (arith, nat_tests)

-- how a packet lies in its frame
record Lies (bytes : List ℕ) (p : Packet) : Type 0 where
  place : p.at + length p.payload ≤ 14 + length bytes

lies : (bytes : List ℕ) (p : Packet) → packet_of bytes ≡ Ok p → Lies bytes p
unfolding packet_of
lies bytes p e =
    let a = passed (nat_lt (length bytes) 20) ipf.Short _ p e in
    let b = passed (not (_ == 4)) ipf.BadVersion _ p a.1 in
    let c = passed (nat_lt (ip.header_len bytes) 20 || nat_lt (ip.total_len bytes) (ip.header_len bytes) || nat_lt (length bytes) (ip.total_len bytes)) ipf.BadLength _ p b.1 in
    let f = passed (not (is_summed (take (ip.header_len bytes) bytes))) ipf.BadSum _ p c.1 in
    let g = passed (not (fragment_bits bytes == 0)) ipf.Fragment _ p f.1 in
    let n = neither (nat_lt (ip.header_len bytes) 20 || nat_lt (ip.total_len bytes) (ip.header_len bytes)) (nat_lt (length bytes) (ip.total_len bytes)) c.0 in
    let m = neither (nat_lt (ip.header_len bytes) 20) (nat_lt (ip.total_len bytes) (ip.header_len bytes)) n.0 in
    let within : ip.total_len bytes ≤ length bytes = not_below (length bytes) (ip.total_len bytes) n.1 in
    let behind : ip.header_len bytes ≤ ip.total_len bytes = not_below (ip.total_len bytes) (ip.header_len bytes) m.1 in
    let is : packet_parts bytes ≡ p = ok_same (packet_parts bytes) p g.1 in
    subst (Lies bytes) is (whole (ip.header_len bytes) (ip.total_len bytes) behind within)
  where
    whole : (h t : ℕ) → h ≤ t → t ≤ length bytes → Lies bytes (record { src = (packet_parts bytes).src; dst = (packet_parts bytes).dst; protocol = (packet_parts bytes).protocol; at = 14 + h; payload = take (t - h) (drop h bytes) })
    whole h t behind within =
        record { place = omega (arith, length-take (t - h) (drop h bytes), length-drop h bytes) }

framed_at : (mac : List ℕ) (p : Packet) (start : ℕ) → start ≤ length p.payload → p.at + length p.payload ≤ 65535
    → IsFramed (record { head = head_of mac (segment_at p start); body = (segment_at p start).body })
unfolding segment_at
framed_at mac p start within small =
    record { len = refl; place = omega (arith, length-drop start p.payload) }

framed_segment : (check : Bool) (mac : List ℕ) (p : Packet) (s : Segment) → segment_of check p ≡ Ok s → p.at + length p.payload ≤ 65535
    → IsFramed (record { head = head_of mac s; body = s.body })
unfolding segment_of
framed_segment check mac p s e small =
    let a = passed (nat_lt (length p.payload) 20) segf.Short _ s e in
    let b = passed (nat_lt (header_len p.payload) 20 || nat_lt (length p.payload) (header_len p.payload)) segf.BadOffset _ s a.1 in
    let c = passed (check && not (transport_sum_of p.src p.dst 6 p.payload == 0)) segf.BadSum _ s b.1 in
    let n = neither (nat_lt (header_len p.payload) 20) (nat_lt (length p.payload) (header_len p.payload)) b.0 in
    let within : header_len p.payload ≤ length p.payload = not_below (length p.payload) (header_len p.payload) n.1 in
    let is : segment_at p (header_len p.payload) ≡ s = ok_same (segment_at p (header_len p.payload)) s c.1 in
    subst (λ t. IsFramed (record { head = head_of mac t; body = t.body })) is (framed_at mac p (header_len p.payload) within small)

framed_named : (mac : List ℕ) (p : Packet) (check : Bool) (r : Result Segment SegFault) → segment_of check p ≡ r → (seg : Seg) → named_segment mac r ≡ Ok seg → p.at + length p.payload ≤ 65535 → IsFramed seg
framed_named mac p check (Ok s) is seg e small =
    let same : record { head = head_of mac s; body = s.body } ≡ seg = cc in
    subst IsFramed same (framed_segment check mac p s is small)
framed_named mac p check (Err fault) is seg e small = absurd (cc)

framed_packet : (other : Packet → Disposition) (local : Local) (check : Bool) (mac : List ℕ) (p : Packet) (seg : Seg) → segment_of_packet other local check mac p ≡ Ok seg → p.at + length p.payload ≤ 65535 → IsFramed seg
unfolding segment_of_packet
framed_packet other local check mac p seg e small =
    let a = passed (not (p.dst == local.ip)) d.NotOurs _ seg e in
    let b = passed (not (p.protocol == 6)) (other p) _ seg a.1 in
    framed_named mac p check (segment_of check p) refl seg b.1 small

framed_read : (other : Packet → Disposition) (local : Local) (check : Bool) (mac bytes : List ℕ) (r : Result Packet IpFault) → packet_of bytes ≡ r → (seg : Seg) → segment_of_read other local check mac r ≡ Ok seg → 14 + length bytes ≤ 65535 → IsFramed seg
framed_read other local check mac bytes (Ok p) is seg e small =
    let l = lies bytes p is in
    framed_packet other local check mac p seg e (omega (arith, l.place))
framed_read other local check mac bytes (Err fault) is seg e small = absurd (cc)

framed_ethernet : (other : Packet → Disposition) (local : Local) (check : Bool) (e : Ethernet) (seg : Seg) → segment_of_ethernet other local check e ≡ Ok seg → 14 + length e.rest ≤ 65535 → IsFramed seg
unfolding segment_of_ethernet
framed_ethernet other local check e seg is small =
    let a = passed (not (is_for local.mac e)) d.NotOurs _ seg is in
    let b = passed (e.kind == 0x0806) d.Arp _ seg a.1 in
    let c = passed (not (e.kind == 0x0800)) d.NotIp _ seg b.1 in
    framed_read other local check e.src e.rest (packet_of e.rest) refl seg c.1 small

framed_view : (other : Packet → Disposition) (local : Local) (check : Bool) (frame : List ℕ) (short : Bool) → nat_lt (length frame) 14 ≡ short → (seg : Seg)
    → segment_of_view other local check (if short then None else Some (ethernet_parts frame)) ≡ Ok seg → length frame ≤ 2048 → IsFramed seg
framed_view other local check frame true is seg e small = absurd (cc)
framed_view other local check frame false is seg e small =
    framed_ethernet other local check (ethernet_parts frame) seg e (omega (arith, length-drop 14 frame, not_below (length frame) 14 is))

pub framed_frame : (other : Packet → Disposition) (local : Local) (check : Bool) (frame : List ℕ) (seg : Seg) → segment_of_frame other local check frame ≡ Ok seg → length frame ≤ 2048 → IsFramed seg
unfolding segment_of_frame ethernet_of
framed_frame other local check frame seg e small = framed_view other local check frame (nat_lt (length frame) 14) refl seg e small

bytes-drop : (n : ℕ) (bs : List ℕ) → AreBytes bs → AreBytes (drop n bs)
bytes-drop zero bs p = p
bytes-drop (suc n) [] p = tt
bytes-drop (suc n) (b ∷ bs) p = bytes-drop n bs p.1

bytes-take : (n : ℕ) (bs : List ℕ) → AreBytes bs → AreBytes (take n bs)
bytes-take zero bs p = tt
bytes-take (suc n) [] p = tt
bytes-take (suc n) (b ∷ bs) p = (p.0, bytes-take n bs p.1)

byte-at : (bs : List ℕ) (i : ℕ) → AreBytes bs → slice_index bs i < 256
byte-at [] i p = omega arith
byte-at (b ∷ bs) zero p = p.0
byte-at (b ∷ bs) (suc i) p = byte-at bs i p.1

-- ## A packet's payload is of its bytes
bytes-packet : (bytes : List ℕ) (p : Packet) → packet_of bytes ≡ Ok p → AreBytes bytes → AreBytes p.payload
unfolding packet_of
bytes-packet bytes p e all =
    let a = passed (nat_lt (length bytes) 20) ipf.Short _ p e in
    let b = passed (not (_ == 4)) ipf.BadVersion _ p a.1 in
    let c = passed (nat_lt (ip.header_len bytes) 20 || nat_lt (ip.total_len bytes) (ip.header_len bytes) || nat_lt (length bytes) (ip.total_len bytes)) ipf.BadLength _ p b.1 in
    let f = passed (not (is_summed (take (ip.header_len bytes) bytes))) ipf.BadSum _ p c.1 in
    let g = passed (not (fragment_bits bytes == 0)) ipf.Fragment _ p f.1 in
    let is : packet_parts bytes ≡ p = ok_same (packet_parts bytes) p g.1 in
    subst (λ (q : Packet). AreBytes q.payload) is (bytes-take _ _ (bytes-drop _ bytes all))

-- ## A segment's window is made of two bytes
window-at : (p : Packet) (start : ℕ) → AreBytes p.payload → (segment_at p start).window < 2 ^ 16
unfolding segment_at
window-at p start all = omega (arith, byte-at p.payload 14 all, byte-at p.payload 15 all)

window-segment : (check : Bool) (p : Packet) (s : Segment) → segment_of check p ≡ Ok s → AreBytes p.payload → s.window < 2 ^ 16
unfolding segment_of
window-segment check p s e all =
    let a = passed (nat_lt (length p.payload) 20) segf.Short _ s e in
    let b = passed (nat_lt (header_len p.payload) 20 || nat_lt (length p.payload) (header_len p.payload)) segf.BadOffset _ s a.1 in
    let c = passed (check && not (transport_sum_of p.src p.dst 6 p.payload == 0)) segf.BadSum _ s b.1 in
    let is : segment_at p (header_len p.payload) ≡ s = ok_same (segment_at p (header_len p.payload)) s c.1 in
    subst (λ (t : Segment). t.window < 2 ^ 16) is (window-at p (header_len p.payload) all)

window-named : (mac : List ℕ) (p : Packet) (check : Bool) (r : Result Segment SegFault) → segment_of check p ≡ r → (seg : Seg) → named_segment mac r ≡ Ok seg → AreBytes p.payload → seg.head.window < 2 ^ 16
window-named mac p check (Ok s) is seg e all =
    let same : record { head = head_of mac s; body = s.body } ≡ seg = cc in
    subst (λ (t : Seg). t.head.window < 2 ^ 16) same (window-segment check p s is all)
window-named mac p check (Err fault) is seg e all = absurd (cc)

window-packet : (other : Packet → Disposition) (local : Local) (check : Bool) (mac : List ℕ) (p : Packet) (seg : Seg) → segment_of_packet other local check mac p ≡ Ok seg → AreBytes p.payload → seg.head.window < 2 ^ 16
unfolding segment_of_packet
window-packet other local check mac p seg e all =
    let a = passed (not (p.dst == local.ip)) d.NotOurs _ seg e in
    let b = passed (not (p.protocol == 6)) (other p) _ seg a.1 in
    window-named mac p check (segment_of check p) refl seg b.1 all

window-read : (other : Packet → Disposition) (local : Local) (check : Bool) (mac bytes : List ℕ) (r : Result Packet IpFault) → packet_of bytes ≡ r → (seg : Seg) → segment_of_read other local check mac r ≡ Ok seg → AreBytes bytes → seg.head.window < 2 ^ 16
window-read other local check mac bytes (Ok p) is seg e all = window-packet other local check mac p seg e (bytes-packet bytes p is all)
window-read other local check mac bytes (Err fault) is seg e all = absurd (cc)

window-ethernet : (other : Packet → Disposition) (local : Local) (check : Bool) (e : Ethernet) (seg : Seg) → segment_of_ethernet other local check e ≡ Ok seg → AreBytes e.rest → seg.head.window < 2 ^ 16
unfolding segment_of_ethernet
window-ethernet other local check e seg is all =
    let a = passed (not (is_for local.mac e)) d.NotOurs _ seg is in
    let b = passed (e.kind == 0x0806) d.Arp _ seg a.1 in
    let c = passed (not (e.kind == 0x0800)) d.NotIp _ seg b.1 in
    window-read other local check e.src e.rest (packet_of e.rest) refl seg c.1 all

window-view : (other : Packet → Disposition) (local : Local) (check : Bool) (frame : List ℕ) (short : Bool) → (seg : Seg)
    → segment_of_view other local check (if short then None else Some (ethernet_parts frame)) ≡ Ok seg → AreBytes frame → seg.head.window < 2 ^ 16
window-view other local check frame true seg e all = absurd (cc)
window-view other local check frame false seg e all = window-ethernet other local check (ethernet_parts frame) seg e (bytes-drop 14 frame all)

pub windowed_frame : (other : Packet → Disposition) (local : Local) (check : Bool) (frame : List ℕ) (seg : Seg) → segment_of_frame other local check frame ≡ Ok seg → AreBytes frame → seg.head.window < 2 ^ 16
unfolding segment_of_frame ethernet_of
windowed_frame other local check frame seg e all = window-view other local check frame (nat_lt (length frame) 14) seg e all
