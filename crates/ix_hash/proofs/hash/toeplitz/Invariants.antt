use Rattle.std.proofs.Common.{◌≡◌}
use Rattle.ix_hash.specs.Bits.{bits_from}
use Rattle.ix_hash.specs.Toeplitz.{hash_of_bits}
use Rattle.ix_hash.proofs.hash.toeplitz.Given as goal

abbrev pub invariant-loop-i : goal.invariant-loop-i
invariant-loop-i l = (l.window ≡ bits_from l.key l.i 32) × (l.hash ≡ hash_of_bits l.key l.input l.i)
