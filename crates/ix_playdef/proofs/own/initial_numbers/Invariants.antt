use Rattle.std.proofs.Common.{◌≡◌, ◌++◌, drop}
use Rattle.ix_pcap.specs.Capture.{frames_of}
use Rattle.ix_playdef.specs.Own.{initial_numbers}
use Rattle.ix_playdef.proofs.own.initial_numbers.Given as goal

abbrev pub invariant-loop-span : goal.invariant-loop-span
invariant-loop-span l =
    l.pairs.items ++ initial_numbers l.local (frames_of l.bytes (drop l.span-index l.spans)) ≡ initial_numbers l.local (frames_of l.bytes l.spans)
