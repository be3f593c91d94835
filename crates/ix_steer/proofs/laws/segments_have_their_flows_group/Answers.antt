use Rattle.std.proofs.Common.{ap}
use Rattle.ix_hash.specs.Group.{group_of_named}
use Rattle.ix_steer.proofs.laws.segments_have_their_flows_group.Goals as goal

pub returns : goal.returns
returns c = λ other local check frame s is. ap group_of_named (c.segments_name_their_flow.ensures other local check frame s is)
