use Rattle.std.proofs.Common.{◌≡◌}
use Rattle.ix_hash.specs.Bits.{bits_from}
use Rattle.ix_hash.proofs.hash.first_bits.Given as goal

abbrev pub invariant-loop-i : goal.invariant-loop-i
invariant-loop-i l = l.bits ≡ bits_from l.bytes 0 l.i
