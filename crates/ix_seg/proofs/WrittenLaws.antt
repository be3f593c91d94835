-- The frame that is written, and that its receiver reads it.
use Rattle.std.proofs.Common.{◌≡◌, ℕ, ◌+◌, ◌*◌, ◌/◌, ◌-◌, ◌<◌, ◌≤◌, ◌^◌, List, [], ◌++◌, length, take, drop, refl, ◌∙◌, sym, ap, append_assoc, length-append, arith, Bool, true, false, Option, Some, None}
use Rattle.std.specs.Prelude.{nat_lt, ◌==◌, not, ◌||◌, ◌&&◌, Ok, IfSome}
use Rattle.std.proofs.lemmas.Bool.Decides.{nat_tests}
use Rattle.std.proofs.lemmas.List.{take_at, drop_at}
use Rattle.byteorder.specs.Endian.{big_from, big_bytes}
use Rattle.byteorder.specs.Numbers.{big_number-reads_back}
use Rattle.ix_base.specs.Branches.{past}
use Rattle.ix_base.specs.declared.frame.Local.{Local}
use Rattle.ix_base.specs.declared.segment.SegHead.{SegHead}
use Rattle.ix_eth.specs.Ethernet.{ethernet_header, IsHeader}
use Rattle.ix_ip.specs.Sum.{carried, word_sum, pseudo_header, transport_sum_of}
use Rattle.ix_ip.specs.Header.{ip_header, IsPacketHeader}
use Rattle.ix_ip.specs.Packet.{Packet}
use Rattle.ix_ip.specs.SumLaws.{carried-append, carried-complement}
use Rattle.ix_seg.specs.Options.{mss_of}
use Rattle.ix_seg.specs.Segment.{Segment, segment_of, segment_at, header_len}
use Rattle.ix_seg.specs.Written.{mss_option, offset_byte, tcp_header_with, segment_with, segment_bytes, frame_bytes, exchanged, IsInRange, IsReceived, receiver}
use Rattle.ix_seg.proofs.FrameLaws.{read_by_parts}

pub length-segment_with : (h : SegHead) (body : List ℕ) (sum : ℕ) → length (segment_with h body sum) ≡ 20 + length (mss_option h.mss) + length body
length-segment_with h body sum =
    length-append (tcp_header_with h sum ++ mss_option h.mss) body ∙ ap (λ n. n + length body) (length-append (tcp_header_with h sum) (mss_option h.mss))

pub length-segment_bytes : (h : SegHead) (body : List ℕ) → length (segment_bytes h body) ≡ 20 + length (mss_option h.mss) + length body
unfolding segment_bytes
length-segment_bytes h body = length-segment_with h body (transport_sum_of h.flow.local h.flow.remote 6 (segment_with h body 0))

-- four pieces are summed as one
pub four_summed : (p h o b : List ℕ) (k j i : ℕ) (s t u v : ℕ) → length p ≡ k + k → length h ≡ j + j → length o ≡ i + i → s ≡ carried (word_sum p)
    → t ≡ carried (s + word_sum h) → u ≡ carried (t + word_sum o) → v ≡ carried (u + word_sum b) → v ≡ carried (word_sum (p ++ ((h ++ o) ++ b)))
four_summed p h o b k j i s t u v even_p even_h even_o es et eu ev =
    let two : t ≡ carried (word_sum (p ++ h)) = et ∙ ap (λ (n : ℕ). carried (n + word_sum h)) es ∙ carried-append p h k even_p in
    let three : u ≡ carried (word_sum ((p ++ h) ++ o)) =
    eu ∙ ap (λ (n : ℕ). carried (n + word_sum o)) two ∙ carried-append (p ++ h) o (k + j) (omega (arith, length-append p h)) in
    let four : v ≡ carried (word_sum (((p ++ h) ++ o) ++ b)) =
    ev ∙ ap (λ (n : ℕ). carried (n + word_sum b)) three
    ∙ carried-append ((p ++ h) ++ o) b ((k + j) + i) (omega (arith, length-append (p ++ h) o, length-append p h)) in
    let grouped : (((p ++ h) ++ o) ++ b) ≡ p ++ ((h ++ o) ++ b) = simp append_assoc in
    four ∙ ap (λ (xs : List ℕ). carried (word_sum xs)) grouped

-- half the length of the option
pub half_option : (mss : Option ℕ) → length (mss_option mss) ≡ length (mss_option mss) / 2 + length (mss_option mss) / 2
half_option None = refl
half_option (Some mss) = refl

-- what is put part by part is the frame
pub frame_is : (h : SegHead) (local : Local) (body : List ℕ) (len s : ℕ) → len ≡ length (segment_with h body 0)
    → s ≡ transport_sum_of h.flow.local h.flow.remote 6 (segment_with h body 0)
    → (((ethernet_header h.peer_mac local.mac 0x0800 ++ ip_header h.flow.local h.flow.remote 6 (20 + len)) ++ tcp_header_with h s) ++ mss_option h.mss) ++ body
    ≡ frame_bytes h local body
unfolding frame_bytes segment_bytes
frame_is h local body len s len_is s_is =
    let e = ethernet_header h.peer_mac local.mac 0x0800 in
    let grouped : (((e ++ ip_header h.flow.local h.flow.remote 6 (20 + len)) ++ tcp_header_with h s) ++ mss_option h.mss) ++ body
    ≡ e ++ (ip_header h.flow.local h.flow.remote 6 (20 + len) ++ segment_with h body s) =
    regrouped e (ip_header h.flow.local h.flow.remote 6 (20 + len)) (tcp_header_with h s) (mss_option h.mss) body in
    grouped ∙ ap (λ (xs : List ℕ). e ++ xs) (ap (λ (n : ℕ). ip_header h.flow.local h.flow.remote 6 (20 + n) ++ segment_with h body s) len_is
    ∙ ap (λ (x : ℕ). ip_header h.flow.local h.flow.remote 6 (20 + length (segment_with h body 0)) ++ segment_with h body x) s_is)
  where
    regrouped : (e i t o b : List ℕ) → (((e ++ i) ++ t) ++ o) ++ b ≡ e ++ (i ++ ((t ++ o) ++ b))
    regrouped e i t o b = simp append_assoc

-- five parts, one after the other
pub parts : (t₁ t₂ t₃ t₄ t₅ a b c d e a' b' c' : List ℕ) → t₁ ≡ a' → t₂ ≡ t₁ ++ b' → t₃ ≡ t₂ ++ c' → t₄ ≡ t₃ ++ d → t₅ ≡ t₄ ++ e
    → a' ≡ a → b' ≡ b → c' ≡ c → t₅ ≡ (((a ++ b) ++ c) ++ d) ++ e
parts t₁ t₂ t₃ t₄ t₅ a b c d e a' b' c' h₁ h₂ h₃ h₄ h₅ e₁ e₂ e₃ = cc

-- the checksum is one word more
segment_word : (h : SegHead) (body : List ℕ) (src dst c : ℕ) → c < 65536
    → word_sum (pseudo_header src dst 6 (length (segment_with h body c)) ++ segment_with h body c)
    ≡ word_sum (pseudo_header src dst 6 (length (segment_with h body 0)) ++ segment_with h body 0) + c
unfolding word_sum
segment_word h body src dst c below = omega arith

checksum_right : (h : SegHead) (body : List ℕ) → transport_sum_of h.flow.local h.flow.remote 6 (segment_bytes h body) ≡ 0
unfolding segment_bytes
checksum_right h body =
    let c = transport_sum_of h.flow.local h.flow.remote 6 (segment_with h body 0) in
    let whole = segment_word h body h.flow.local h.flow.remote c (omega arith) in
    ap (λ (n : ℕ). 65535 - n) (ap carried whole ∙ carried-complement _ c refl)

-- the data offset is the length of the header with its option
offset_is : (mss : Option ℕ) → 4 * (offset_byte mss / 16) ≡ 20 + length (mss_option mss)
offset_is None = refl
offset_is (Some mss) = refl

pub option_short : (mss : Option ℕ) → length (mss_option mss) ≤ 4
option_short None = omega arith
option_short (Some mss) = omega arith

mss_back : (mss : Option ℕ) → IfSome mss (λ m. m < 2 ^ 16) → mss_of (mss_option mss) ≡ mss
mss_back None h = refl
mss_back (Some mss) h = ap Some (big_number-reads_back 2 mss [] h)

and_false : (b c : Bool) → c ≡ false → (b && c) ≡ false
and_false true c h = h
and_false false c h = refl

zero_test : (n : ℕ) → n ≡ 0 → not (n == 0) ≡ false
zero_test n h = grind (arith, nat_tests)

-- a segment that meets each test
segment_ok : (check : Bool) (p : Packet) → 20 ≤ length p.payload → 20 ≤ header_len p.payload → header_len p.payload ≤ length p.payload
    → transport_sum_of p.src p.dst 6 p.payload ≡ 0 → segment_of check p ≡ Ok (segment_at p (header_len p.payload))
unfolding segment_of
segment_ok check p long above within right =
    past (nat_lt (length p.payload) 20) _ _ _ (grind (arith, nat_tests))
    (past (nat_lt (header_len p.payload) 20 || nat_lt (length p.payload) (header_len p.payload)) _ _ _ (grind (arith, nat_tests))
    (past (check && not (transport_sum_of p.src p.dst 6 p.payload == 0)) _ _ _ (and_false check _ (zero_test _ right)) refl))

-- the packet and the segment that are read
abbrev pub packet_read : SegHead → List ℕ → Packet
packet_read h body = record { src = h.flow.local; dst = h.flow.remote; protocol = 6; at = 34; payload = segment_bytes h body }

abbrev pub segment_read : SegHead → List ℕ → Segment
segment_read h body = record {
  flow = exchanged h.flow;
  seq = h.seq;
  ack = h.ack;
  flags = h.flags;
  window = h.window;
  mss = h.mss;
  at = 54 + length (mss_option h.mss);
  body = body;
}

module _ (h : SegHead) (body : List ℕ) (range : IsInRange h) (mss_range : IfSome h.mss (λ m. m < 2 ^ 16)) where
  header_is : header_len (segment_bytes h body) ≡ 20 + length (mss_option h.mss)
  unfolding segment_bytes
  header_is = offset_is h.mss

  same_segment : (p q s a w : ℕ) (m : Option ℕ) (t : ℕ) (b : List ℕ) → p ≡ h.flow.local_port → q ≡ h.flow.remote_port → s ≡ h.seq → a ≡ h.ack
      → w ≡ h.window → m ≡ h.mss → t ≡ 54 + length (mss_option h.mss) → b ≡ body
      → ◌≡◌ {A = Segment} (record {
        flow = record { remote = h.flow.local; local = h.flow.remote; remote_port = p; local_port = q };
        seq = s;
        ack = a;
        flags = h.flags;
        window = w;
        mss = m;
        at = t;
        body = b;
      }) (segment_read h body)
  same_segment p q s a w m t b e₁ e₂ e₃ e₄ e₅ e₆ e₇ e₈ = cc

  at_header : (start : ℕ) → start ≡ 20 + length (mss_option h.mss) → segment_at (packet_read h body) start ≡ segment_read h body
  unfolding segment_bytes segment_at
  at_header start is =
      let header = tcp_header_with h (transport_sum_of h.flow.local h.flow.remote 6 (segment_with h body 0)) in
      same_segment (big_from 0 2 (big_bytes 2 h.flow.local_port)) (big_from 0 2 (big_bytes 2 h.flow.remote_port)) (big_from 0 4 (big_bytes 4 h.seq))
      (big_from 0 4 (big_bytes 4 h.ack)) (big_from 0 2 (big_bytes 2 h.window)) (mss_of (take (start - 20) (mss_option h.mss ++ body))) (34 + start)
      (drop start ((header ++ mss_option h.mss) ++ body))
      (big_number-reads_back 2 h.flow.local_port [] range.local_port) (big_number-reads_back 2 h.flow.remote_port [] range.remote_port) (big_number-reads_back 4 h.seq [] range.seq)
      (big_number-reads_back 4 h.ack [] range.ack) (big_number-reads_back 2 h.window [] range.window)
      (ap mss_of (take_at (mss_option h.mss) body (start - 20) (omega arith)) ∙ mss_back h.mss mss_range)
      (omega arith)
      (drop_at (header ++ mss_option h.mss) body start (length-append header (mss_option h.mss) ∙ sym is))

  pub segment_back : (check : Bool) → segment_of check (packet_read h body) ≡ Ok (segment_read h body)
  segment_back check =
      segment_ok check (packet_read h body) (omega (arith, length-segment_bytes h body)) (omega (arith, header_is))
      (omega (arith, header_is, length-segment_bytes h body)) (checksum_right h body)
      ∙ ap Ok (at_header _ header_is)

  -- the frame, by what is known of its two first headers
  pub is_received : (local : Local) (e i : List ℕ) (total : ℕ) → IsHeader h.peer_mac local.mac 0x0800 e
      → IsPacketHeader h.flow.local h.flow.remote 6 total i → total ≡ 20 + length (segment_bytes h body) → IsReceived h local body (e ++ (i ++ segment_bytes h body))
  is_received local e i total eth ip is = λ other check.
      read_by_parts other (receiver h) check (e ++ (i ++ segment_bytes h body))
      (record { dst = h.peer_mac; src = local.mac; kind = 0x0800; rest = i ++ segment_bytes h body }) (packet_read h body) (segment_read h body)
      (eth (i ++ segment_bytes h body)) refl refl (ip (segment_bytes h body) is) refl refl (segment_back check)
