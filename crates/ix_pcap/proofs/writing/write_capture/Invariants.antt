use Rattle.std.proofs.Common.{◌≡◌, ◌++◌, drop}
use Rattle.std.specs.List.{flat_map}
use Rattle.ix_pcap.specs.Written.{header_bytes, record_bytes}
use Rattle.ix_pcap.proofs.writing.write_capture.Given as goal

abbrev pub invariant-loop-one : goal.invariant-loop-one
invariant-loop-one l = l.bytes ++ flat_map record_bytes (drop l.one-index l.sent) ≡ header_bytes ++ flat_map record_bytes l.sent
