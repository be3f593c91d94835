use Rattle.std.proofs.Common.{◌≡◌, length, take}
use Rattle.ix_pcap.specs.Capture.{frames_of}
use Rattle.ix_playdef.specs.Wire.{AreGiven}
use Rattle.ix_playdef.proofs.wire.give_all.Given as goal

abbrev pub invariant-loop-i : goal.invariant-loop-i
invariant-loop-i l = (length l.lists ≡ 512) × AreGiven (frames_of l.bytes l.spans) (take l.i l.entries) l.lists
