use Rattle.ix_tcpdef.specs.Sound.{IsStanding}
use Rattle.ix_talk.proofs.talk.first_wrong.Given as goal

abbrev pub invariant-loop-i : goal.invariant-loop-i
invariant-loop-i l = IsStanding l.cfg l.talk.world
