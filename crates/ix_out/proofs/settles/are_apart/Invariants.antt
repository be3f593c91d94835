use Rattle.std.proofs.Common.{◌≡◌, drop}
use Rattle.ix_fits.specs.Owners.{are_apart}
use Rattle.ix_out.proofs.settles.are_apart.Given as goal

abbrev pub invariant-loop-i : goal.invariant-loop-i
invariant-loop-i l = are_apart (drop l.i l.buffers) ≡ are_apart l.buffers
