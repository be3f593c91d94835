use Rattle.ix_ip.proofs.PacketLaws.{payloads_lie_within}
use Rattle.ix_ip.proofs.laws.payloads_lie_within.Goals as goal

pub returns : goal.returns
returns c = payloads_lie_within
