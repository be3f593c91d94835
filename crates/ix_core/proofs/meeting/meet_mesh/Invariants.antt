use Rattle.ix_core.specs.Meeting.{FirstMeet}
use Rattle.ix_core.proofs.meeting.meet_mesh.Given as goal

abbrev pub invariant-loop-b : goal.invariant-loop-b
invariant-loop-b g l = FirstMeet l.b l.initial.cores l.cores
