-- What is written reads back.
use Rattle.std.proofs.Common.{◌≡◌, ℕ, ◌+◌, ◌-◌, ◌<◌, ◌≤◌, ◌^◌, All, List, [], ◌∷◌, ◌++◌, length, take, drop, map, refl, sym, ◌∙◌, ap, arith, length-append, Bool, true, false, if◌then◌else◌, nat_lt, ◌/◌, ◌%◌, ◌*◌}
use Rattle.std.specs.Prelude.{Result, Ok, Err, slice_range}
use Rattle.std.specs.List.{flat_map}
use Rattle.std.proofs.lemmas.List.{append-nil, append_assoc, drop_all, drop_at, take_at}
use Rattle.std.proofs.lemmas.List.Elements.{All-head, All-tail}
use Rattle.std.proofs.lemmas.Bool.Decides.{nat_tests}
use Rattle.byteorder.specs.Endian.{little_number, little_bytes}
use Rattle.byteorder.specs.Numbers.{little_number-reads_back}
use Rattle.ix_base.specs.Branches.{past}
use Rattle.ix_pcap.specs.declared.records.Span.{Span}
use Rattle.ix_pcap.specs.declared.records.CaptureFault.{CaptureFault}
use Rattle.ix_pcap.specs.declared.records.CaptureFault.TheVariants.{CutHeader}
use Rattle.ix_pcap.specs.declared.writing.Sent.{Sent}
use Rattle.ix_pcap.specs.Capture.{body_of, bytes_at, capture_of, records, with_front}
use Rattle.ix_pcap.specs.Written.{IsWritable, ReadsBack, capture_bytes, header_bytes, record_bytes, record_header}
use Rattle.ix_pcap.proofs.RecordLaws.{no_more, one_record}

-- where the frames of written records lie, from a place on
abbrev pub spans_from : ℕ → List Sent → List Span
spans_from at [] = []
spans_from at (one ∷ rest) =
    record { from = at + 16; to = at + 16 + length one.frame } ∷ spans_from (at + 16 + length one.frame) rest

pub length-record_header : (tick len : ℕ) → length (record_header tick len) ≡ 16
unfolding record_header
length-record_header tick len = refl

pub length-record_bytes : (one : Sent) → length (record_bytes one) ≡ 16 + length one.frame
unfolding record_bytes
length-record_bytes one =
    length-append (record_header one.at (length one.frame)) one.frame
    ∙ ap (λ (n : ℕ). n + length one.frame) (length-record_header one.at (length one.frame))

regroup : (x a b c d e : List ℕ) → x ++ a ++ b ++ c ++ d ++ e ≡ x ++ (a ++ b ++ c ++ d ++ e)
regroup x a b c d e = simp append_assoc

-- a record written number by number
pub record_pieces : (one : Sent) (bytes : List ℕ)
    → bytes ++ little_bytes 4 (one.at / 1000) ++ little_bytes 4 (one.at % 1000 * 1000) ++ little_bytes 4 (length one.frame) ++ little_bytes 4 (length one.frame) ++ one.frame
    ≡ bytes ++ record_bytes one
unfolding record_bytes record_header
record_pieces one bytes =
    regroup bytes (little_bytes 4 (one.at / 1000)) (little_bytes 4 (one.at % 1000 * 1000)) (little_bytes 4 (length one.frame)) (little_bytes 4 (length one.frame)) one.frame

-- once every record is written, nothing is left to write
pub all_written : (bytes all : List ℕ) (sent : List Sent) (i : ℕ) → length sent ≤ i → bytes ++ flat_map record_bytes (drop i sent) ≡ all → bytes ≡ all
all_written bytes all sent i done so_far =
    sym (append-nil bytes) ∙ ap (λ (l : List Sent). bytes ++ flat_map record_bytes l) (sym (drop_all i sent done)) ∙ so_far

-- the captured length of a written record
pub len-record_header : (tick len : ℕ) (rest : List ℕ) → len < 2 ^ 32 → little_number 4 (drop 8 (record_header tick len ++ rest)) ≡ len
unfolding record_header
len-record_header tick len rest fits = little_number-reads_back 4 len (little_bytes 4 len ++ rest) fits

pub len-record_bytes : (one : Sent) (rest : List ℕ) → length one.frame < 2 ^ 32 → little_number 4 (drop 8 (record_bytes one ++ rest)) ≡ length one.frame
unfolding record_bytes
len-record_bytes one rest fits =
    ap (λ (l : List ℕ). little_number 4 (drop 8 l)) (append_assoc (record_header one.at (length one.frame)) one.frame rest)
    ∙ len-record_header one.at (length one.frame) (one.frame ++ rest) fits

-- the records that are written read as their spans
pub records-written : (max at : ℕ) (sent : List Sent) → length sent ≤ max → All IsWritable sent
    → records little_number max at (flat_map record_bytes sent) ≡ Ok (spans_from at sent)
records-written max at [] room fits = no_more little_number max at [] refl
records-written max at (one ∷ rest) room fits =
    let len : ℕ = length one.frame in
    let more : List ℕ = flat_map record_bytes rest in
    let span : Span = record { from = at + 16; to = at + 16 + len } in
    let size : length (record_bytes one) ≡ 16 + len = length-record_bytes one in
    let is : len ≡ little_number 4 (drop 8 (record_bytes one ++ more)) = sym (len-record_bytes one more (All-head IsWritable one rest fits).len) in
    let whole : 16 + len ≤ length (record_bytes one ++ more) = omega (arith, length-append (record_bytes one) more) in
    one_record little_number max at len (record_bytes one ++ more) is (omega arith) whole
    ∙ ap (λ (l : List ℕ). with_front (span ∷ []) (records little_number (max - 1) (at + 16 + len) l)) (drop_at (record_bytes one) more (16 + len) size)
    ∙ ap (with_front (span ∷ [])) (records-written (max - 1) (at + 16 + len) rest (omega arith) (All-tail IsWritable one rest fits))

-- the frame of one record, wherever it stands
pub bytes_at-record : (front : List ℕ) (one : Sent) (more : List ℕ)
    → bytes_at (front ++ (record_bytes one ++ more)) (record { from = length front + 16; to = length front + 16 + length one.frame }) ≡ one.frame
unfolding record_bytes
bytes_at-record front one more =
    let head : List ℕ = record_header one.at (length one.frame) in
    let len : ℕ = length one.frame in
    let place : length (front ++ head) ≡ length front + 16 = length-append front head ∙ ap (λ (n : ℕ). length front + n) (length-record_header one.at len) in
    let regroup : front ++ (head ++ one.frame ++ more) ≡ (front ++ head) ++ (one.frame ++ more) =
    ap (λ (l : List ℕ). front ++ l) (append_assoc head one.frame more) ∙ sym (append_assoc front head (one.frame ++ more)) in
    let size : length front + 16 + len - (length front + 16) ≡ len = omega arith in
    ap (λ (l : List ℕ). slice_range l (length front + 16) (length front + 16 + len)) regroup
    ∙ ap (λ (l : List ℕ). take (length front + 16 + len - (length front + 16)) l) (drop_at (front ++ head) (one.frame ++ more) (length front + 16) place)
    ∙ ap (λ (n : ℕ). take n (one.frame ++ more)) size
    ∙ take_at one.frame more len refl

-- the frames at the spans of written records, behind any bytes
pub frames-written : (front : List ℕ) (sent : List Sent)
    → map (bytes_at (front ++ flat_map record_bytes sent)) (spans_from (length front) sent) ≡ map (λ (one : Sent). one.frame) sent
frames-written front [] = refl
frames-written front (one ∷ rest) =
    let len : ℕ = length one.frame in
    let more : List ℕ = flat_map record_bytes rest in
    let all : List ℕ = front ++ (record_bytes one ++ more) in
    let first : bytes_at all (record { from = length front + 16; to = length front + 16 + len }) ≡ one.frame = bytes_at-record front one more in
    let place : length (front ++ record_bytes one) ≡ length front + 16 + len = omega (arith, length-append front (record_bytes one), length-record_bytes one) in
    let others : map (bytes_at all) (spans_from (length front + 16 + len) rest) ≡ map (λ (one : Sent). one.frame) rest =
    ap (λ (l : List ℕ). map (bytes_at l) (spans_from (length front + 16 + len) rest)) (sym (append_assoc front (record_bytes one) more))
    ∙ ap (λ (n : ℕ). map (bytes_at ((front ++ record_bytes one) ++ more)) (spans_from n rest)) (sym place)
    ∙ frames-written (front ++ record_bytes one) rest in
    ap (λ (l : List (List ℕ)). bytes_at all (record { from = length front + 16; to = length front + 16 + len }) ∷ l) others
    ∙ ap (λ (frame : List ℕ). frame ∷ map (λ (one : Sent). one.frame) rest) first

pub length-header_bytes : length header_bytes ≡ 24
unfolding header_bytes
length-header_bytes = refl

-- the header of a written file is read past
pub capture_of-header : (rest : List ℕ) → capture_of (header_bytes ++ rest) ≡ records little_number 262144 24 rest
unfolding capture_of body_of header_bytes
capture_of-header rest =
    let bytes : List ℕ = header_bytes ++ rest in
    let all : Result (List Span) CaptureFault = records little_number 262144 24 rest in
    past (nat_lt (length bytes) 4) (Err (CutHeader (length bytes))) (body_of little_number bytes) all (grind (arith, nat_tests))
    (past (nat_lt (length bytes) 24) (Err (CutHeader (length bytes))) all all (grind (arith, nat_tests)) refl)

-- what is written reads back
pub capture_bytes-reads_back : (sent : List Sent) → All IsWritable sent → length sent ≤ 262144 → ReadsBack sent (capture_bytes sent)
unfolding capture_bytes
capture_bytes-reads_back sent fits room = record {
  spans = spans_from 24 sent;
  read = capture_of-header (flat_map record_bytes sent) ∙ records-written 262144 24 sent room fits;
  frames = ap (λ (n : ℕ). map (bytes_at (header_bytes ++ flat_map record_bytes sent)) (spans_from n sent)) (sym length-header_bytes) ∙ frames-written header_bytes sent;
}
