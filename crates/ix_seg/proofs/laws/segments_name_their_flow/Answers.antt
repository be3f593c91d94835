use Rattle.ix_seg.proofs.FrameLaws.{segments_name_their_flow}
use Rattle.ix_seg.proofs.laws.segments_name_their_flow.Goals as goal

pub returns : goal.returns
returns c = segments_name_their_flow
