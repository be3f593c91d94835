use Rattle.std.proofs.Common.{◌≡◌, take}
use Rattle.std.specs.Prelude.{filter}
use Rattle.ix_groupdef.specs.Env.{setting_of}
use Rattle.ix_groupdef.specs.Group.{connect_all, empty}
use Rattle.ix_playdef.specs.Connects.{is_asked_in}
use Rattle.ix_told.proofs.connects.connected.Given as goal

abbrev pub invariant-loop-connect : goal.invariant-loop-connect
invariant-loop-connect l =
    l.plain ≡ connect_all (setting_of l.env) (filter (is_asked_in l.env.local.ip l.group.0) (take l.connect-index l.asked)) empty
