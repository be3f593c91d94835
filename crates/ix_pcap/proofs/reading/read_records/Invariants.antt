use Rattle.std.proofs.Common.{◌≡◌, ◌≤◌, ◌-◌, All, length, drop}
use Rattle.ix_pcap.specs.Capture.{IsSpanOf, records, with_front}
use Rattle.ix_pcap.proofs.reading.read_records.Given as goal

abbrev pub invariant-loop-at : goal.invariant-loop-at
invariant-loop-at g l = record {
  read : with_front l.spans.items (records g.T.ByteOrder.number_of (l.max - length l.spans.items) l.at (drop l.at l.bytes)) ≡ records g.T.ByteOrder.number_of l.max 24 (drop 24 l.bytes);
  place : l.at ≤ length l.bytes;
  within : All (IsSpanOf l.bytes) l.spans.items;
  count : length l.spans.items ≤ l.max;
}

abbrev pub decreases-loop-at : goal.decreases-loop-at
decreases-loop-at g l = length l.bytes - l.at
