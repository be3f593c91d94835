use Rattle.ix_core.specs.Opening.{TiedSome}
use Rattle.ix_core.proofs.opening.join.Given as goal

abbrev pub invariant-loop-lower : goal.invariant-loop-lower
invariant-loop-lower g l = TiedSome l.places l.lower l.number l.initial.cores.items l.cores.items l.initial.core l.core
