use Rattle.ix_tcpdef.specs.Sound.{IsStanding}
use Rattle.ix_beside.proofs.twins.first_apart.Given as goal

abbrev pub invariant-loop-moment : goal.invariant-loop-moment
invariant-loop-moment l = IsStanding l.cfg l.twins.world
