use Rattle.std.proofs.Common.{take}
use Rattle.ix_engine.specs.Steps.{IsDialed}
use Rattle.ix_engine.proofs.dialing.dial_peers.Given as goal

abbrev pub invariant-loop-cookie : goal.invariant-loop-cookie
invariant-loop-cookie l = IsDialed l.env (take l.cookie l.peers) l.told.items l.initial.core l.core
