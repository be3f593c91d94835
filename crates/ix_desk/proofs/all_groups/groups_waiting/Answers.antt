use Rattle.std.proofs.Common.{◌<◌, length, arith}
use Rattle.ix_desk.specs.Groups.{waits}
use Rattle.ix_desk.proofs.Joined.{found-at, next-at}
use Rattle.ix_desk.proofs.all_groups.groups_waiting.Goals as goal

pub returns-in-Ok-clause-found : goal.returns-in-Ok-clause-found
returns-in-Ok-clause-found g c =
    let lt : c.loop-here.here-index < length c.args.groups.now = omega arith in
    found-at waits c.args.groups.now c.loop-here.here-index c.here-item.result c.loop-here.left c.args.i _ lt c.here-item.is c.in-Ok.ensures.found c.loop-here.invariant

pub loop-here-preserved : goal.loop-here-preserved
loop-here-preserved g c =
    let lt : c.loop-here.here-index < length c.args.groups.now = omega arith in
    next-at waits c.args.groups.now c.loop-here.here-index c.here-item.result c.loop-here.left c.in-Err.rest c.args.i lt c.here-item.is c.in-Err.ensures.beyond c.loop-here.invariant
