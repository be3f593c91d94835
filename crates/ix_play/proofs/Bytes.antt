-- The frames of a capture are of the bytes of its file.
use Rattle.std.proofs.Common.{◌-◌, ◌<◌, ℕ, zero, suc, List, [], ◌∷◌, arith, drop, get_or, length, take}
use Rattle.std.specs.List.{AllByRecursion}
use Rattle.ix_pcap.specs.Capture.{frames_of}
use Rattle.ix_pcap.specs.declared.records.Span.{Span}
use Rattle.ix_playdef.specs.Sound.{AreBytes}

bytes-drop : (n : ℕ) (bs : List ℕ) → AreBytes bs → AreBytes (drop n bs)
bytes-drop zero bs all = all
bytes-drop (suc n) [] all = tt
bytes-drop (suc n) (b ∷ bs) all = bytes-drop n bs all.1

bytes-take : (n : ℕ) (bs : List ℕ) → AreBytes bs → AreBytes (take n bs)
bytes-take zero bs all = tt
bytes-take (suc n) [] all = tt
bytes-take (suc n) (b ∷ bs) all = (all.0, bytes-take n bs all.1)

pub frames_bytes : (bytes : List ℕ) (spans : List Span) → AreBytes bytes → AllByRecursion AreBytes (frames_of bytes spans)
frames_bytes bytes [] all = tt
frames_bytes bytes (span ∷ spans) all = (bytes-take (span.to - span.from) (drop span.from bytes) (bytes-drop span.from bytes all), frames_bytes bytes spans all)

pub bytes_each : (bs : List ℕ) → ((i : ℕ) → i < length bs → get_or bs i 0 < 256) → AreBytes bs
bytes_each [] each = tt
bytes_each (b ∷ bs) each = (each 0 (omega arith), bytes_each bs (λ i lt. each (suc i) (omega (arith, lt))))
