use Rattle.ix_wire.proofs.WireLaws.{keep_rules}
use Rattle.ix_wire.proofs.reading.scripts_keep_rules.Goals as goal

pub returns : goal.returns
returns c = keep_rules c.plans_go_elsewhere.ensures
