use Rattle.ix_slots.proofs.Slots.{frames-are-own}
use Rattle.ix_slots.proofs.laws.frames_lie_in_slots.Goals as goal

pub returns : goal.returns
returns start = frames-are-own
