-- What is a segment names its own flow, and a frame is read test by test.
use Rattle.std.proofs.Common.{◌≡◌, ℕ, ◌+◌, ◌≤◌, List, length, take, drop, refl, ◌∙◌, sym, ap, subst, arith, Bool, true, false, Option, Some, None}
use Rattle.std.specs.Prelude.{if◌then◌else◌, nat_lt, nat_le, ◌==◌, not, ◌||◌, ◌&&◌, Result, Ok, Err, IfOk, bytes_eq, option_and_then}
use Rattle.std.proofs.lemmas.Bool.Decides.{nat_tests}
use Rattle.std.proofs.lemmas.List.{drop-take, drop-drop, length-drop}
use Rattle.std.proofs.lemmas.Slice.Eq.{bytes_eq-Decides}
use Rattle.ix_base.specs.Branches.{past, if_ok}
use Rattle.ix_base.specs.declared.frame.Local.{Local}
use Rattle.ix_base.specs.declared.frame.Disposition.{Disposition}
use Rattle.ix_base.specs.declared.frame.Disposition.TheVariants as dispositions
use Rattle.ix_base.specs.declared.id.Flow.{Flow}
use Rattle.ix_base.specs.declared.segment.Seg.{Seg}
use Rattle.ix_eth.specs.Ethernet.{Ethernet, ethernet_of, ethernet_parts, is_for}
use Rattle.ix_ip.specs.declared.packet.IpFault.{IpFault}
use Rattle.ix_ip.specs.Packet.{Packet, packet_of, flow_of_packet, flow_of_read, flow_behind, PayloadsLieWithin, LiesWithin as IpLiesWithin}
use Rattle.ix_ip.specs.Sum.{transport_sum_of}
use Rattle.ix_seg.specs.declared.segment.SegFault.{SegFault}
use Rattle.ix_seg.specs.declared.segment.SegFault.TheVariants as faults
use Rattle.ix_seg.specs.Segment.{Segment, segment_of, segment_at, header_len, head_of}
use Rattle.ix_seg.specs.Frame.{named_segment, segment_of_packet, segment_of_read, segment_of_ethernet, segment_of_view, segment_of_frame, flow_of_frame, LiesWithin, SegmentsLieWithin, SegmentsNameTheirFlow}

-- what holds of an Ok past a test that gives a fault, which is named
if_ok-named : (mac : List ℕ) (P : Seg → Type 0) (b : Bool) (e : SegFault) (y : Result Segment SegFault) → (b ≡ false → IfOk (named_segment mac y) P)
    → IfOk (named_segment mac (if b then Err e else y)) P
if_ok-named mac P true e y h = tt
if_ok-named mac P false e y h = h refl

flow_is : (p : Packet) → (p.protocol == 6) ≡ true → nat_le 4 (length p.payload) ≡ true → (start : ℕ) → flow_of_packet p ≡ Some (segment_at p start).flow
unfolding segment_at
flow_is p six four start = rw (six, four) refl

four_bytes : (n : ℕ) → 20 ≤ n → nat_le 4 n ≡ true
four_bytes n h = grind (arith, nat_tests)

not_false : (b : Bool) → not b ≡ false → b ≡ true
not_false true h = refl
not_false false h = cc

-- ## What holds of every segment
-- what holds wherever its body begins within the payload
of_segment : (P : Seg → Type 0) (p : Packet) (check : Bool) (mac : List ℕ)
    → ((start : ℕ) → 20 ≤ start → start ≤ length p.payload → P (record { head = head_of mac (segment_at p start); body = (segment_at p start).body }))
    → IfOk (named_segment mac (segment_of check p)) P
unfolding segment_of
of_segment P p check mac holds =
    if_ok-named mac P (nat_lt (length p.payload) 20) faults.Short _ (λ long.
    if_ok-named mac P (nat_lt (header_len p.payload) 20 || nat_lt (length p.payload) (header_len p.payload)) faults.BadOffset _ (λ offset.
    if_ok-named mac P (check && not (transport_sum_of p.src p.dst 6 p.payload == 0)) faults.BadSum _ (λ right.
    holds (header_len p.payload) (above_twenty (header_len p.payload) (length p.payload) offset) (within_payload (header_len p.payload) (length p.payload) offset)))) where
      above_twenty : (h n : ℕ) → (nat_lt h 20 || nat_lt n h) ≡ false → 20 ≤ h
      above_twenty h n e = grind (arith, nat_tests)

      within_payload : (h n : ℕ) → (nat_lt h 20 || nat_lt n h) ≡ false → h ≤ n
      within_payload h n e = grind (arith, nat_tests)

of_packet : (P : Seg → Type 0) (other : Packet → Disposition) (local : Local) (check : Bool) (mac : List ℕ) (p : Packet)
    → ((p.protocol == 6) ≡ true → IfOk (named_segment mac (segment_of check p)) P) → IfOk (segment_of_packet other local check mac p) P
unfolding segment_of_packet
of_packet P other local check mac p holds =
    if_ok P (not (p.dst == local.ip)) dispositions.NotOurs _ (λ ours.
    if_ok P (not (p.protocol == 6)) (other p) _ (λ tcp. holds (not_false _ tcp)))

of_ethernet : (P : Seg → Type 0) (other : Packet → Disposition) (local : Local) (check : Bool) (e : Ethernet)
    → ((e.kind == 0x0800) ≡ true → IfOk (segment_of_read other local check e.src (packet_of e.rest)) P) → IfOk (segment_of_ethernet other local check e) P
unfolding segment_of_ethernet
of_ethernet P other local check e holds =
    if_ok P (not (is_for local.mac e)) dispositions.NotOurs _ (λ ours.
    if_ok P (e.kind == 0x0806) dispositions.Arp _ (λ not_arp.
    if_ok P (not (e.kind == 0x0800)) dispositions.NotIp _ (λ ipv4. holds (not_false _ ipv4))))

-- ## Its flow
flow_of_read_is : (other : Packet → Disposition) (local : Local) (check : Bool) (mac : List ℕ) (r : Result Packet IpFault)
    → IfOk (segment_of_read other local check mac r) (λ s. flow_of_read r ≡ Some s.head.flow)
flow_of_read_is other local check mac (Ok p) =
    let P : Seg → Type 0 = λ s. flow_of_packet p ≡ Some s.head.flow in
    of_packet P other local check mac p (λ six.
    of_segment P p check mac (λ start above within. flow_is p six (four_bytes (length p.payload) (omega arith)) start))
flow_of_read_is other local check mac (Err fault) = tt

behind_ipv4 : (kind : ℕ) (bytes : List ℕ) → (kind == 0x0800) ≡ true → flow_behind kind bytes ≡ flow_of_read (packet_of bytes)
behind_ipv4 kind bytes h = rw h refl

flow_of_view_is : (other : Packet → Disposition) (local : Local) (check : Bool) (o : Option Ethernet)
    → IfOk (segment_of_view other local check o) (λ s. option_and_then (λ e. flow_behind e.kind e.rest) o ≡ Some s.head.flow)
flow_of_view_is other local check None = tt
flow_of_view_is other local check (Some e) =
    of_ethernet (λ s. flow_behind e.kind e.rest ≡ Some s.head.flow) other local check e (λ ipv4.
    subst (λ (o : Option Flow). IfOk (segment_of_read other local check e.src (packet_of e.rest)) (λ s. o ≡ Some s.head.flow))
    (sym (behind_ipv4 e.kind e.rest ipv4)) (flow_of_read_is other local check e.src (packet_of e.rest)))

-- what is a segment names its flow
pub flow_named : (other : Packet → Disposition) (local : Local) (check : Bool) (frame : List ℕ)
    → IfOk (segment_of_frame other local check frame) (λ s. flow_of_frame frame ≡ Some s.head.flow)
unfolding segment_of_frame flow_of_frame
flow_named other local check frame = flow_of_view_is other local check (ethernet_of frame)

pub segments_name_their_flow : SegmentsNameTheirFlow
segments_name_their_flow other local check frame s is =
    subst (λ (r : Result Seg Disposition). IfOk r (λ s. flow_of_frame frame ≡ Some s.head.flow)) is (flow_named other local check frame)

-- ## Its place
-- a part of a part
part_of_part : (frame payload : List ℕ) (at start : ℕ) → payload ≡ take (length payload) (drop at frame) → start ≤ length payload
    → drop start payload ≡ take (length (drop start payload)) (drop (at + start) frame)
part_of_part frame payload at start is within =
    let size : length payload ≡ start + length (drop start payload) = omega (arith, length-drop start payload) in
    ap (drop start) (is ∙ ap (λ n. take n (drop at frame)) size)
    ∙ drop-take start (length (drop start payload)) (drop at frame)
    ∙ ap (take (length (drop start payload))) (drop-drop start at frame)

payload_is : (frame rest : List ℕ) (p : Packet) → rest ≡ drop 14 frame → (lies : IpLiesWithin rest p)
    → p.payload ≡ take (length p.payload) (drop p.at frame)
payload_is frame rest p e lies =
    lies.payload ∙ ap (λ xs. take (length p.payload) (drop lies.start xs)) e ∙ ap (take (length p.payload)) (drop-drop lies.start 14 frame ∙ ap (λ n. drop n frame) (sym lies.at))

segment_lies : (frame rest : List ℕ) (p : Packet) (mac : List ℕ) (start : ℕ) → rest ≡ drop 14 frame → 14 ≤ length frame → IpLiesWithin rest p
    → start ≤ length p.payload → LiesWithin frame (record { head = head_of mac (segment_at p start); body = (segment_at p start).body })
unfolding segment_at
segment_lies frame rest p mac start e long lies within =
    record {
      len = refl;
      within = omega (arith, lies.at, lies.within, ap length e, length-drop 14 frame, length-drop start p.payload);
      body = part_of_part frame p.payload p.at start (payload_is frame rest p e lies) within;
    }

read_lies : PayloadsLieWithin → (other : Packet → Disposition) (local : Local) (check : Bool) (mac frame rest : List ℕ) (r : Result Packet IpFault)
    → rest ≡ drop 14 frame → 14 ≤ length frame → packet_of rest ≡ r → IfOk (segment_of_read other local check mac r) (LiesWithin frame)
read_lies law other local check mac frame rest (Ok p) e long read =
    of_packet (LiesWithin frame) other local check mac p (λ six.
    of_segment (LiesWithin frame) p check mac (λ start above within. segment_lies frame rest p mac start e long (law rest p read) within))
read_lies law other local check mac frame rest (Err fault) e long read = tt

view_lies : PayloadsLieWithin → (other : Packet → Disposition) (local : Local) (check short : Bool) (frame : List ℕ) → nat_lt (length frame) 14 ≡ short
    → IfOk (segment_of_view other local check (if short then None else Some (ethernet_parts frame))) (LiesWithin frame)
view_lies law other local check true frame is = tt
view_lies law other local check false frame is =
    let e = ethernet_parts frame in
    of_ethernet (LiesWithin frame) other local check e (λ ipv4.
    read_lies law other local check e.src frame e.rest (packet_of e.rest) refl (grind (arith, nat_tests)) refl)

frame_lies : PayloadsLieWithin → (other : Packet → Disposition) (local : Local) (check : Bool) (frame : List ℕ)
    → IfOk (segment_of_frame other local check frame) (LiesWithin frame)
unfolding segment_of_frame ethernet_of
frame_lies law other local check frame = view_lies law other local check (nat_lt (length frame) 14) frame refl

pub segments_lie_within : PayloadsLieWithin → SegmentsLieWithin
segments_lie_within law other local check frame s is =
    subst (λ (r : Result Seg Disposition). IfOk r (LiesWithin frame)) is (frame_lies law other local check frame)

-- ## A frame that is read
for_itself : (mac : List ℕ) → bytes_eq mac mac ≡ true
for_itself mac = (bytes_eq-Decides mac mac).1 refl

is_ours : (local : Local) (e : Ethernet) → e.dst ≡ local.mac → not (is_for local.mac e) ≡ false
is_ours local e same = rw (same, for_itself local.mac) refl

equal_test : (a b : ℕ) → a ≡ b → not (a == b) ≡ false
equal_test a b h = grind (arith, nat_tests)

-- a frame whose parts are read one after the other
pub read_by_parts : (other : Packet → Disposition) (local : Local) (check : Bool) (frame : List ℕ) (e : Ethernet) (p : Packet) (s : Segment)
    → ethernet_of frame ≡ Some e → e.dst ≡ local.mac → e.kind ≡ 0x0800 → packet_of e.rest ≡ Ok p → p.dst ≡ local.ip → p.protocol ≡ 6
    → segment_of check p ≡ Ok s → segment_of_frame other local check frame ≡ Ok (record { head = head_of e.src s; body = s.body })
unfolding segment_of_frame segment_of_ethernet segment_of_packet
read_by_parts other local check frame e p s ethernet ours kind packet mine tcp segment =
    ap (segment_of_view other local check) ethernet
    ∙ past (not (is_for local.mac e)) _ _ _ (is_ours local e ours)
    (past (e.kind == 0x0806) _ _ _ (grind (arith, nat_tests))
    (past (not (e.kind == 0x0800)) _ _ _ (equal_test _ _ kind)
    (ap (segment_of_read other local check e.src) packet
    ∙ past (not (p.dst == local.ip)) _ _ _ (equal_test _ _ mine)
    (past (not (p.protocol == 6)) _ _ _ (equal_test _ _ tcp)
    (ap (named_segment e.src) segment)))))
