-- The bytes of a capture file that is written, and what they read as.
use Rattle.std.specs.Prelude.{◌≡◌, ◌<◌, ℕ, ◌*◌, ◌/◌, ◌%◌, ◌^◌, List, ◌++◌, length, map, Ok}
use Rattle.std.specs.List.{flat_map}
use Rattle.byteorder.specs.Endian.{little_bytes}
use Rattle.ix_pcap.specs.Capture.{capture_of, frames_of}
use Rattle.ix_pcap.specs.declared.records.Span.{Span}
use Rattle.ix_pcap.specs.declared.writing.Sent.{Sent}

-- The magic number of microseconds, version 2 and 4, time zone and accuracy, which are 0, the greatest captured length, and
-- the link type Ethernet. Each number has its low bytes first.
unfoldable pub header_bytes : List ℕ
header_bytes =
    little_bytes 4 0xa1b2c3d4 ++ little_bytes 2 2 ++ little_bytes 2 4 ++ little_bytes 4 0 ++ little_bytes 4 0 ++ little_bytes 4 65535
    ++ little_bytes 4 1

-- A tick is a millisecond: the seconds, the microseconds within the second, and the length twice, as captured and on the wire.
unfoldable pub record_header : ℕ → ℕ → List ℕ
record_header tick len =
    little_bytes 4 (tick / 1000) ++ little_bytes 4 (tick % 1000 * 1000) ++ little_bytes 4 len ++ little_bytes 4 len

unfoldable pub record_bytes : Sent → List ℕ
record_bytes sent = record_header sent.at (length sent.frame) ++ sent.frame

unfoldable pub capture_bytes : List Sent → List ℕ
capture_bytes sent = header_bytes ++ flat_map record_bytes sent

-- the numbers of its record fit their 32 bits
pub record IsWritable (sent : Sent) : Type 0 where
  pub tick : sent.at < 2 ^ 32
  pub len : length sent.frame < 2 ^ 32

-- the bytes read as a capture of exactly these frames
pub record ReadsBack (sent : List Sent) (bytes : List ℕ) : Type 0 where
  pub spans : List Span
  pub read : capture_of bytes ≡ Ok spans
  pub frames : frames_of bytes spans ≡ map (λ (one : Sent). one.frame) sent
