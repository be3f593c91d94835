use Rattle.ix_core.specs.Homing.{GatheredSome, CoreEmptied, core_returns}
use Rattle.ix_core.proofs.homing.empty_cores.Given as goal

abbrev pub invariant-loop-place : goal.invariant-loop-place
invariant-loop-place g l = GatheredSome CoreEmptied core_returns l.place l.initial.cores l.cores l.initial.bufs.items l.bufs.items
