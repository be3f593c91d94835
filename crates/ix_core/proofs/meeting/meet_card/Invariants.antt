use Rattle.ix_core.specs.Meeting.{CardMeets}
use Rattle.ix_core.proofs.meeting.meet_card.Given as goal

abbrev pub invariant-loop-c : goal.invariant-loop-c
invariant-loop-c g l = CardMeets l.c l.initial.nic l.nic l.initial.cores l.cores
