use Rattle.ix_tcpdef.specs.Sound.{IsStanding}
use Rattle.ix_beside.proofs.meeting.side_by_side.Given as goal

abbrev pub invariant-loop-moment : goal.invariant-loop-moment
invariant-loop-moment l = IsStanding l.cfg l.twins.world
