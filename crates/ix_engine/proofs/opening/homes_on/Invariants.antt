use Rattle.ix_engine.specs.Openings.{AreHomes}
use Rattle.ix_engine.proofs.opening.homes_on.Given as goal

abbrev pub invariant-loop-group : goal.invariant-loop-group
invariant-loop-group l = AreHomes l.table l.core.0 l.group l.homes.items
