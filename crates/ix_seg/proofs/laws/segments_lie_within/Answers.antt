use Rattle.ix_seg.proofs.FrameLaws.{segments_lie_within}
use Rattle.ix_seg.proofs.laws.segments_lie_within.Goals as goal

pub returns : goal.returns
returns c = segments_lie_within c.payloads_lie_within.ensures
