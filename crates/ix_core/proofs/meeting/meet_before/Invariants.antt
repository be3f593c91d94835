use Rattle.ix_core.specs.Meeting.{RowMeets}
use Rattle.ix_core.proofs.meeting.meet_before.Given as goal

abbrev pub invariant-loop-a : goal.invariant-loop-a
invariant-loop-a g l = RowMeets l.a l.b l.initial.cores l.cores
