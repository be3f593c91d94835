use Rattle.std.proofs.Common.{arith}
use Rattle.ix_core.proofs.Meetings.{first_more, first_none, meshed_on}
use Rattle.ix_core.proofs.meeting.meet_mesh.Goals as goal

pub loop-b-init : goal.loop-b-init
loop-b-init g c = first_none _

pub meet_before-requires-clause-within : goal.meet_before-requires-clause-within
meet_before-requires-clause-within g c = omega (arith, c.loop-b.invariant.learned.count)

pub meet_before-requires-clause-meshed : goal.meet_before-requires-clause-meshed
meet_before-requires-clause-meshed g c = meshed_on _ _ c.requires c.loop-b.invariant.learned

pub loop-b-preserved : goal.loop-b-preserved
loop-b-preserved g c = first_more _ _ _ _ c.loop-b.invariant c.meet_before.ensures
