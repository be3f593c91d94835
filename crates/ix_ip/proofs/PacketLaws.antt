-- The header that is written reads back.
use Rattle.std.proofs.Common.{◌≡◌, ℕ, ◌+◌, ◌/◌, ◌-◌, ◌<◌, ◌≤◌, ◌^◌, List, ◌++◌, length, take, drop, refl, sym, subst, [], ◌∙◌, ap, arith, false}
use Rattle.std.specs.Prelude.{nat_lt, ◌==◌, not, ◌||◌, slice_index, Result, Ok, IfOk}
use Rattle.std.proofs.lemmas.Bool.Decides.{nat_tests}
use Rattle.std.proofs.lemmas.List.{take_all, length-take, length-drop}
use Rattle.byteorder.specs.Endian.{big_from, big_bytes}
use Rattle.byteorder.specs.Numbers.{big_number-reads_back}
use Rattle.ix_base.specs.Branches.{past, if_ok}
use Rattle.ix_ip.specs.declared.packet.IpFault.{IpFault}
use Rattle.ix_ip.specs.declared.packet.IpFault.TheVariants as faults
use Rattle.ix_ip.specs.Sum.{carried, word_sum, sum16_of, is_summed}
use Rattle.ix_ip.specs.Packet.{Packet, packet_of, packet_parts, header_len, total_len, fragment_bits, LiesWithin, PayloadsLieWithin}
use Rattle.ix_ip.specs.Header.{header_with, ip_header, IsPacketHeader}
use Rattle.ix_ip.specs.SumLaws.{carried-complement}

-- a packet that meets each test
pub packet_ok : (bytes : List ℕ) → 20 ≤ length bytes → slice_index bytes 0 ≡ 69 → 20 ≤ total_len bytes → total_len bytes ≤ length bytes
    → sum16_of (take (header_len bytes) bytes) ≡ 0 → fragment_bits bytes ≡ 0 → packet_of bytes ≡ Ok (packet_parts bytes)
unfolding packet_of
packet_ok bytes long_enough first total_above total_below sum fragment =
    past (nat_lt (length bytes) 20) _ _ _ (grind (arith, nat_tests))
    (past (not (slice_index bytes 0 / 16 == 4)) _ _ _ (grind (arith, nat_tests))
    (past (nat_lt (header_len bytes) 20 || nat_lt (total_len bytes) (header_len bytes) || nat_lt (length bytes) (total_len bytes)) _ _ _ (grind (arith, nat_tests))
    (past (not (is_summed (take (header_len bytes) bytes))) _ _ _ (grind (arith, nat_tests))
    (past (not (fragment_bits bytes == 0)) _ _ _ (grind (arith, nat_tests)) refl))))

-- the checksum is one word more
header_sum : (src dst protocol total c : ℕ) → c < 65536
    → word_sum (header_with src dst protocol total c) ≡ word_sum (header_with src dst protocol total 0) + c
unfolding word_sum
header_sum src dst protocol total c h = omega arith

checksum_right : (src dst protocol total : ℕ) → sum16_of (ip_header src dst protocol total) ≡ 0
unfolding ip_header
checksum_right src dst protocol total =
    let c = sum16_of (header_with src dst protocol total 0) in
    let whole : word_sum (header_with src dst protocol total c) ≡ word_sum (header_with src dst protocol total 0) + c =
    header_sum src dst protocol total c (omega arith) in
    ap (λ n. 65535 - n) (ap carried whole ∙ carried-complement _ c refl)

same_packet : (src dst protocol : ℕ) (payload : List ℕ) (a b : ℕ) (p : List ℕ) → a ≡ src → b ≡ dst → p ≡ payload
    → ◌≡◌ {A = Result Packet IpFault} (Ok (record { src = a; dst = b; protocol = protocol; at = 34; payload = p }))
    (Ok (record { src = src; dst = dst; protocol = protocol; at = 34; payload = payload }))
same_packet src dst protocol payload a b p e f g = cc

pub header_read : (src dst protocol total : ℕ) → src < 2 ^ 32 → dst < 2 ^ 32 → total < 65536
    → IsPacketHeader src dst protocol total (ip_header src dst protocol total)
unfolding ip_header
header_read src dst protocol total hs hd ht = λ payload is.
    packet_ok (header_with src dst protocol total (sum16_of (header_with src dst protocol total 0)) ++ payload)
    (omega arith) refl (omega arith) (omega arith) (checksum_right src dst protocol total) refl
    ∙ same_packet src dst protocol payload (big_from 0 4 (big_bytes 4 src)) (big_from 0 4 (big_bytes 4 dst)) _ (big_number-reads_back 4 src [] hs) (big_number-reads_back 4 dst [] hd)
    (take_all _ payload (omega arith))

-- ## Where a payload lies
header_long : (h t n : ℕ) → (nat_lt h 20 || nat_lt t h || nat_lt n t) ≡ false → 20 ≤ h
header_long h t n e = grind (arith, nat_tests)

total_long : (h t n : ℕ) → (nat_lt h 20 || nat_lt t h || nat_lt n t) ≡ false → h ≤ t
total_long h t n e = grind (arith, nat_tests)

total_within : (h t n : ℕ) → (nat_lt h 20 || nat_lt t h || nat_lt n t) ≡ false → t ≤ n
total_within h t n e = grind (arith, nat_tests)

within_if : (bytes : List ℕ) → IfOk (packet_of bytes) (LiesWithin bytes)
unfolding packet_of
within_if bytes =
    let P : Packet → Type 0 = LiesWithin bytes in
    let h = header_len bytes in
    let t = total_len bytes in
    if_ok P (nat_lt (length bytes) 20) faults.Short _ (λ long.
    if_ok P (not (slice_index bytes 0 / 16 == 4)) faults.BadVersion _ (λ version.
    if_ok P (nat_lt h 20 || nat_lt t h || nat_lt (length bytes) t) faults.BadLength _ (λ lengths.
    if_ok P (not (is_summed (take h bytes))) faults.BadSum _ (λ sum.
    if_ok P (not (fragment_bits bytes == 0)) faults.Fragment _ (λ whole.
    within_lengths bytes (header_long h t _ lengths) (total_long h t _ lengths) (total_within h t _ lengths)))))) where
      within_lengths : (bytes : List ℕ) → 20 ≤ header_len bytes → header_len bytes ≤ total_len bytes → total_len bytes ≤ length bytes → LiesWithin bytes (packet_parts bytes)
      within_lengths bytes a b c =
          let h = header_len bytes in
          let size : length (take (total_len bytes - h) (drop h bytes)) ≡ total_len bytes - h =
          omega (arith, length-take (total_len bytes - h) (drop h bytes), length-drop h bytes) in
          record { start = h; behind = a; at = refl; within = omega arith; payload = ap (λ n. take n (drop h bytes)) (sym size) }

-- a packet's payload is within its bytes, behind its header
pub payloads_lie_within : PayloadsLieWithin
payloads_lie_within bytes p e =
    subst (λ (r : Result Packet IpFault). IfOk r (LiesWithin bytes)) e (within_if bytes)
