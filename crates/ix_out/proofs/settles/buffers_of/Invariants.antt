use Rattle.std.proofs.Common.{◌≡◌, ◌++◌, drop, map}
use Rattle.ix_fits.specs.Owners.{buffers_of}
use Rattle.ix_out.specs.Out.{number_out}
use Rattle.ix_out.proofs.settles.buffers_of.Given as goal

abbrev pub invariant-loop-out : goal.invariant-loop-out
invariant-loop-out l = l.buffers.items ++ buffers_of l.entries (map number_out (drop l.out-index l.outs)) ≡ buffers_of l.entries (map number_out l.outs)
