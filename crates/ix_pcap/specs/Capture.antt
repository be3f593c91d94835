-- What the bytes of a capture file mean: where the frames of its records lie, or its first fault.
-- The format is that of the IETF draft "PCAP Capture File Format" (draft-ietf-opsawg-pcap): section 4 has the header of the
-- file, section 5 that of a record. A pcapng file begins with the block type of draft-ietf-opsawg-pcapng, section 4.1.
use Rattle.std.specs.Prelude.{◌≡◌, ◌≤◌, ℕ, zero, suc, ◌+◌, List, [], ◌∷◌, ◌++◌, length, drop, map, slice_range, Result, Ok, Err, nat_lt, ◌==◌, ◌||◌, not, Bool, if◌then◌else◌}
use Rattle.byteorder.specs.Endian.{big_number, little_number}
use Rattle.ix_pcap.specs.declared.records.Span.{Span}
use Rattle.ix_pcap.specs.declared.records.CaptureFault.{CaptureFault}
use Rattle.ix_pcap.specs.declared.records.CaptureFault.TheVariants.{CutHeader, Pcapng, BadMagic, BadVersion, BadLink, TooManyRecords, CutRecord, NoMemory}

-- these spans, and then those that are read behind them
abbrev pub with_front : List Span → Result (List Span) CaptureFault → Result (List Span) CaptureFault
with_front front (Ok spans) = Ok (front ++ spans)
with_front front (Err fault) = Err fault

-- The records from the place `at` on, at most `max` of them. A record has a header of 16 bytes: seconds, parts of a second,
-- the captured length and the length on the wire. Then come its captured bytes.
unfoldable pub records : (ℕ → List ℕ → ℕ) → ℕ → ℕ → List ℕ → Result (List Span) CaptureFault
records number max at [] = Ok []
records number zero at (b ∷ bs) = Err TooManyRecords
records number (suc max) at (b ∷ bs) =
    let rest = b ∷ bs in
    let len = number 4 (drop 8 rest) in
    if nat_lt (length rest) 16 then Err (CutRecord at)
    else if nat_lt (length rest) (16 + len) then Err (CutRecord at)
    else with_front (record { from = at + 16; to = at + 16 + len } ∷ []) (records number max (at + 16 + len) (drop (16 + len) rest))

-- A file whose magic number has shown how its numbers are read. Its header has the magic number, the major and the minor
-- version, eight bytes that are not read, the limit of captured bytes, which is not tested, and the link type.
unfoldable pub body_of : (ℕ → List ℕ → ℕ) → List ℕ → Result (List Span) CaptureFault
body_of number bytes =
    if nat_lt (length bytes) 24 then Err (CutHeader (length bytes))
    else if not (number 2 (drop 4 bytes) == 2) || not (number 2 (drop 6 bytes) == 4) then Err BadVersion
    else if not (number 4 (drop 20 bytes) == 1) then Err BadLink
    else records number 262144 24 (drop 24 bytes)

-- the magic numbers of timestamps in microseconds and in nanoseconds
abbrev pub is_magic : ℕ → Bool
is_magic n = (n == 0xa1b2c3d4) || (n == 0xa1b23c4d)

unfoldable pub capture_of : List ℕ → Result (List Span) CaptureFault
capture_of bytes =
    if nat_lt (length bytes) 4 then Err (CutHeader (length bytes))
    else if big_number 4 bytes == 0x0a0d0d0a then Err Pcapng
    else if is_magic (little_number 4 bytes) then body_of little_number bytes
    else if is_magic (big_number 4 bytes) then body_of big_number bytes
    else Err BadMagic

-- the span lies in these bytes
pub record IsSpanOf (bytes : List ℕ) (span : Span) : Type 0 where
  pub forward : span.from ≤ span.to
  pub within : span.to ≤ length bytes

-- the bytes that a span names
abbrev pub bytes_at : List ℕ → Span → List ℕ
bytes_at bytes span = slice_range bytes span.from span.to

-- the frames of a file whose records lie at these spans
abbrev pub frames_of : List ℕ → List Span → List (List ℕ)
frames_of bytes spans = map (bytes_at bytes) spans

-- a reader answered the meaning, where `view` is the list of spans in its answer, or that memory ran out
abbrev pub Gives : {A : Type 0} → (A → List Span) → Result A CaptureFault → Result (List Span) CaptureFault → Type 0
Gives view (Ok answer) meaning = meaning ≡ Ok (view answer)
Gives view (Err NoMemory) meaning = Unit {0}
Gives view (Err fault) meaning = meaning ≡ Err fault
