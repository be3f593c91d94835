-- Answers have right sums.
use Rattle.std.proofs.Common.{◌≡◌, ◌≢◌, ℕ, zero, suc, ◌+◌, ◌/◌, ◌-◌, ◌<◌, ◌≤◌, List, [], ◌∷◌, ◌++◌, length, take, drop, refl, ◌∙◌, sym, ap, subst, append_assoc, length-append, arith, Bool, true, false}
use Rattle.std.specs.Prelude.{if◌then◌else◌, nat_lt, ◌==◌, not, ◌||◌, Result, Ok, Err, IfOk, slice_index}
use Rattle.std.proofs.lemmas.Bool.Decides.{nat_tests}
use Rattle.std.proofs.lemmas.List.{take_rest, length-take, length-drop}
use Rattle.byteorder.specs.Numbers.{big_number-reads_back}
use Rattle.byteorder.specs.Endian.{big_from, big_bytes}
use Rattle.ix_ip.specs.declared.packet.IpFault.{IpFault}
use Rattle.ix_ip.specs.declared.packet.IpFault.TheVariants as faults
use Rattle.ix_ip.specs.Packet.{Packet, packet_of, header_len, total_len, fragment_bits}
use Rattle.ix_ip.specs.Sum.{carried, word_sum, sum16_of, is_summed, pseudo_header, transport_sum_of}
use Rattle.ix_ip.specs.SumLaws.{carried-append, carried-below, carried-complement, carried-ones}
use Rattle.ix_base.specs.declared.frame.Local.{Local}
use Rattle.ix_eth.specs.Ethernet.{Ethernet, ethernet_of, IsHeader}
use Rattle.ix_ip.specs.Header.{ip_header, IsPacketHeader}
use Rattle.ix_side.specs.Side.{IsReadBy}
use Rattle.ix_side.specs.Echo.{icmp_with, icmp_reply, udp_header_with, udp_with, udp_reply, shown}

-- a message without type, code and checksum sums to the same
pub icmp_sum : (message : List ℕ) → word_sum (icmp_with message 0) ≡ word_sum (drop 4 message)
unfolding word_sum
icmp_sum message = omega arith

icmp_word : (message : List ℕ) (c : ℕ) → c < 65536 → word_sum (icmp_with message c) ≡ word_sum (icmp_with message 0) + c
unfolding word_sum
icmp_word message c below = omega arith

pub icmp_right : (message : List ℕ) → sum16_of (icmp_reply message) ≡ 0
unfolding icmp_reply
icmp_right message =
    let c = sum16_of (icmp_with message 0) in
    ap (λ (n : ℕ). 65535 - n) (ap carried (icmp_word message c (omega arith)) ∙ carried-complement _ c refl)

udp_word : (d : List ℕ) (src dst c : ℕ) → c < 65536
    → word_sum (pseudo_header src dst 17 (length (udp_with d c)) ++ udp_with d c) ≡ word_sum (pseudo_header src dst 17 (length (udp_with d 0)) ++ udp_with d 0) + c
unfolding word_sum
udp_word d src dst c below = omega arith

pub shown_other : (c : ℕ) → c ≢ 0 → shown c ≡ c
shown_other c h = grind (arith, nat_tests)

pub shown_zero : (c : ℕ) → c ≡ 0 → shown c ≡ 65535
shown_zero c h = grind (arith, nat_tests)

-- a sum and the complement that is shown of it are all ones
carried-shown : (n c : ℕ) → c ≡ 65535 - carried n → carried (n + shown c) ≡ 65535
carried-shown n zero e = carried-ones n (omega (arith, e, carried-below n))
carried-shown n (suc c) e = ap (λ (x : ℕ). carried (n + x)) (shown_other (suc c) (omega arith)) ∙ carried-complement n (suc c) e

shown_below : (c : ℕ) → c < 65536 → shown c < 65536
shown_below c h = grind (arith, nat_tests)

pub udp_right : (src dst : ℕ) (d : List ℕ) → transport_sum_of src dst 17 (udp_reply src dst d) ≡ 0
unfolding udp_reply
udp_right src dst d =
    let c = transport_sum_of src dst 17 (udp_with d 0) in
    ap (λ (n : ℕ). 65535 - n) (ap carried (udp_word d src dst (shown c) (shown_below c (omega arith))) ∙ carried-shown _ c refl)

-- the checksum that is shown is not zero
shown_above : (c : ℕ) → shown c ≢ 0
shown_above c = λ h. grind (arith, nat_tests)

pub udp_summed : (src dst : ℕ) (d : List ℕ) → big_from 6 2 (udp_reply src dst d) ≢ 0
unfolding udp_reply
udp_summed src dst d = λ none.
    let c = transport_sum_of src dst 17 (udp_with d 0) in
    shown_above c (sym (big_number-reads_back 2 (shown c) [] (shown_below c (omega arith))) ∙ none)

-- three pieces are summed as one
three_summed : (p h b : List ℕ) (k j : ℕ) (s t u : ℕ) → length p ≡ k + k → length h ≡ j + j → s ≡ carried (word_sum p) → t ≡ carried (s + word_sum h)
    → u ≡ carried (t + word_sum b) → u ≡ carried (word_sum (p ++ (h ++ b)))
three_summed p h b k j s t u even_p even_h es et eu =
    let two : t ≡ carried (word_sum (p ++ h)) = et ∙ ap (λ (n : ℕ). carried (n + word_sum h)) es ∙ carried-append p h k even_p in
    let three : u ≡ carried (word_sum ((p ++ h) ++ b)) =
    eu ∙ ap (λ (n : ℕ). carried (n + word_sum b)) two ∙ carried-append (p ++ h) b (k + j) (omega (arith, length-append p h)) in
    three ∙ ap (λ (xs : List ℕ). carried (word_sum xs)) (append_assoc p h b)

length-udp_with : (d : List ℕ) (c : ℕ) → 8 ≤ length d → length (udp_with d c) ≡ length d
length-udp_with d c h = omega (arith, length-drop 8 d)

-- the checksum of the answer, piece by piece
pub udp_checksum : (src dst : ℕ) (d header : List ℕ) (s t u : ℕ) → 8 ≤ length d → s ≡ carried (word_sum (pseudo_header src dst 17 (length d)))
    → header ≡ udp_header_with d 0 → t ≡ carried (s + word_sum header) → u ≡ carried (t + word_sum (take (length d - 8) (drop 8 d)))
    → 65535 - u ≡ transport_sum_of src dst 17 (udp_with d 0)
udp_checksum src dst d header s t u whole es eh et eu =
    let p : ℕ → List ℕ = λ n. pseudo_header src dst 17 n in
    let len : length d ≡ length (udp_with d 0) = sym (length-udp_with d 0 whole) in
    let tail : u ≡ carried (t + word_sum (drop 8 d)) = eu ∙ ap (λ (xs : List ℕ). carried (t + word_sum xs)) (take_rest d 8) in
    ap (λ (n : ℕ). 65535 - n)
    (three_summed (p (length (udp_with d 0))) (udp_header_with d 0) (drop 8 d) 6 4 s t u refl refl
    (es ∙ ap (λ (n : ℕ). carried (word_sum (p n))) len) (et ∙ ap (λ (xs : List ℕ). carried (s + word_sum xs)) eh) tail)

-- parts that are put one after the other
three_parts : (t u v e i h' h r : List ℕ) → t ≡ e ++ i → u ≡ t ++ h' → v ≡ u ++ r → h' ≡ h → v ≡ e ++ (i ++ (h ++ r))
three_parts t u v e i h' h r a b c d =
    let put : v ≡ ((e ++ i) ++ h) ++ r = cc in
    put ∙ (let grouped : ((e ++ i) ++ h) ++ r ≡ e ++ (i ++ (h ++ r)) = simp append_assoc in grouped)

icmp_reply_is : (message : List ℕ) (c : ℕ) → c ≡ sum16_of (drop 4 message) → icmp_reply message ≡ icmp_with message c
unfolding icmp_reply
icmp_reply_is message c e = ap (icmp_with message) (ap (λ (n : ℕ). 65535 - carried n) (icmp_sum message) ∙ sym e)

pub length-icmp_reply : (message : List ℕ) → 4 ≤ length message → length (icmp_reply message) ≡ length message
unfolding icmp_reply
length-icmp_reply message h = omega (arith, length-drop 4 message)

pub length-udp_reply : (src dst : ℕ) (d : List ℕ) → 8 ≤ length d → length (udp_reply src dst d) ≡ length d
unfolding udp_reply
length-udp_reply src dst d h = length-udp_with d (shown (transport_sum_of src dst 17 (udp_with d 0))) h

-- the answer to an ICMP request, as it is put
pub icmp_put : (e : List ℕ) (src dst len : ℕ) (message t u v h' : List ℕ) (c : ℕ) → 4 ≤ length message → len ≡ length message
    → t ≡ e ++ ip_header src dst 1 (20 + len) → u ≡ t ++ h' → v ≡ u ++ take (length message - 4) (drop 4 message)
    → c ≡ sum16_of (take (length message - 4) (drop 4 message)) → h' ≡ 0 ∷ 0 ∷ big_bytes 2 c
    → v ≡ e ++ (ip_header src dst 1 (20 + length (icmp_reply message)) ++ icmp_reply message)
icmp_put e src dst len message t u v h' c whole len_is et eu ev ec eh =
    let sum : c ≡ sum16_of (drop 4 message) = ec ∙ ap sum16_of (take_rest message 4) in
    let tail : v ≡ u ++ drop 4 message = ev ∙ ap (λ (xs : List ℕ). u ++ xs) (take_rest message 4) in
    let same : len ≡ length (icmp_reply message) = len_is ∙ sym (length-icmp_reply message whole) in
    three_parts t u v e (ip_header src dst 1 (20 + len)) h' (0 ∷ 0 ∷ big_bytes 2 c) (drop 4 message) et eu tail eh
    ∙ ap (λ (n : ℕ). e ++ (ip_header src dst 1 (20 + n) ++ icmp_with message c)) same
    ∙ ap (λ (xs : List ℕ). e ++ (ip_header src dst 1 (20 + length (icmp_reply message)) ++ xs)) (sym (icmp_reply_is message c sum))

-- the answer to a datagram, as it is put
pub udp_put : (e : List ℕ) (src dst len : ℕ) (d t u v h' : List ℕ) (c : ℕ) → 8 ≤ length d → len ≡ length d → t ≡ e ++ ip_header src dst 17 (20 + len)
    → u ≡ t ++ h' → v ≡ u ++ take (length d - 8) (drop 8 d) → c ≡ shown (transport_sum_of src dst 17 (udp_with d 0)) → h' ≡ udp_header_with d c
    → v ≡ e ++ (ip_header src dst 17 (20 + length (udp_reply src dst d)) ++ udp_reply src dst d)
unfolding udp_reply
udp_put e src dst len d t u v h' c whole len_is et eu ev ec eh =
    let tail : v ≡ u ++ drop 8 d = ev ∙ ap (λ (xs : List ℕ). u ++ xs) (take_rest d 8) in
    let same : len ≡ length (udp_reply src dst d) = len_is ∙ sym (length-udp_reply src dst d whole) in
    three_parts t u v e (ip_header src dst 17 (20 + len)) h' (udp_header_with d c) (drop 8 d) et eu tail eh
    ∙ ap (λ (n : ℕ). e ++ (ip_header src dst 17 (20 + n) ++ udp_with d c)) same
    ∙ ap (λ (xs : List ℕ). e ++ (ip_header src dst 17 (20 + length (udp_reply src dst d)) ++ xs)) (reply_is src dst d c ec) where
      reply_is : (src dst : ℕ) (d : List ℕ) (c : ℕ) → c ≡ shown (transport_sum_of src dst 17 (udp_with d 0)) → udp_with d c ≡ udp_reply src dst d
      reply_is src dst d c e = ap (udp_with d) e

-- what is read of a frame that was put so
pub read_by : (e : Ethernet) (p : Packet) (local : Local) (protocol len : ℕ) (header reply frame : List ℕ) → len ≡ length reply
    → IsHeader e.src local.mac 0x0800 header → IsPacketHeader local.ip p.src protocol (20 + len) (ip_header local.ip p.src protocol (20 + len))
    → frame ≡ header ++ (ip_header local.ip p.src protocol (20 + length reply) ++ reply) → IsReadBy e p local protocol reply frame
read_by e p local protocol len header reply frame len_is ethernet packet frame_is =
    let sized : IsPacketHeader local.ip p.src protocol (20 + length reply) (ip_header local.ip p.src protocol (20 + length reply)) =
    subst (λ (n : ℕ). IsPacketHeader local.ip p.src protocol (20 + n) (ip_header local.ip p.src protocol (20 + n))) len_is packet in
    record {
      rest = ip_header local.ip p.src protocol (20 + length reply) ++ reply;
      ethernet = ap ethernet_of frame_is ∙ ethernet (ip_header local.ip p.src protocol (20 + length reply) ++ reply);
      packet = sized reply refl;
    }
