use Rattle.ix_apps.proofs.SessionLaws.{starts}
use Rattle.ix_apps.proofs.kv.KvApp.begin.Goals as goal

pub returns : goal.returns
returns c = λ r. starts _ c.new.ensures c.new-2.ensures c.new-3.ensures
