use Rattle.std.proofs.Common.{arith}
use Rattle.ix_core.proofs.Meetings.{meshed_on, row_more, row_none}
use Rattle.ix_core.proofs.meeting.meet_before.Goals as goal

pub loop-a-init : goal.loop-a-init
loop-a-init g c = row_none _ _

pub meet_pair-requires-clause-within : goal.meet_pair-requires-clause-within
meet_pair-requires-clause-within g c = omega (arith, c.loop-a.invariant.learned.count, c.requires.within)

pub meet_pair-requires-clause-meshed : goal.meet_pair-requires-clause-meshed
meet_pair-requires-clause-meshed g c = meshed_on _ _ c.requires.meshed c.loop-a.invariant.learned

pub loop-a-preserved : goal.loop-a-preserved
loop-a-preserved g c = row_more _ _ _ _ _ (omega arith) c.loop-a.invariant c.meet_pair.ensures
