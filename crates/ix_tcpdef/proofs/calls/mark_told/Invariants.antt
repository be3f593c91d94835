use Rattle.std.proofs.Common.{◌≡◌, map}
use Rattle.ix_tcpdef.specs.Calls.{as_told}
use Rattle.ix_tcpdef.proofs.calls.mark_told.Given as goal

abbrev pub invariant-loop-piece : goal.invariant-loop-piece
invariant-loop-piece l = l.told ≡ map as_told l.yielded
