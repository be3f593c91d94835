use Rattle.ix_groupdef.specs.Env.{setting_of}
use Rattle.ix_playdef.specs.Connects.{is_asked_in}
use Rattle.ix_playdef.proofs.ConnectLaws.{free-next}
use Rattle.ix_playdef.proofs.connects.connect_in.Goals as goal

pub connect_if_in-requires-clause-free : goal.connect_if_in-requires-clause-free
connect_if_in-requires-clause-free c =
    free-next (setting_of c.args.env.now) (is_asked_in c.args.env.now.local.ip c.args.group.0) c.args.connects.now c.loop-connect.connect-index
    c.connect-item.result c.loop-connect.plain c.loop-connect-test.true c.connect-item.is c.requires.apart c.loop-connect.invariant
