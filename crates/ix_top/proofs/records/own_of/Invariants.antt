use Rattle.std.proofs.Common.{◌≡◌, map, take}
use Rattle.ix_pcap.specs.Capture.{frames_of}
use Rattle.ix_playdef.specs.Own.{own_frame}
use Rattle.ix_top.proofs.records.own_of.Given as goal

abbrev pub invariant-loop-i : goal.invariant-loop-i
invariant-loop-i l = l.own.items ≡ map (own_frame l.mac) (frames_of l.bytes (take l.i l.spans))
