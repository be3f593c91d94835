use Rattle.ix_top.proofs.Meanings.{Refuses-conf}
use Rattle.ix_top.proofs.inputs.parse_conf.Goals as goal

pub returns-in-Err-clause-err : goal.returns-in-Err-clause-err
returns-in-Err-clause-err c = rw c.conf_status.ensures.status (Refuses-conf c.in-Err.fault _ c.in-Err.ensures)
