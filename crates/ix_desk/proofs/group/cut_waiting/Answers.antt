use Rattle.std.proofs.Common.{◌<◌, length, arith}
use Rattle.ix_desk.specs.Pieces.{piece_waits}
use Rattle.ix_desk.proofs.Joined.{found-at, next-at}
use Rattle.ix_desk.proofs.group.cut_waiting.Goals as goal

pub returns-in-Ok-clause-found : goal.returns-in-Ok-clause-found
returns-in-Ok-clause-found g c =
    let lt : c.loop-here.here-index < length c.args.cut.now = omega arith in
    let v = c.here.view_is in let read = c.here-item.is in
    found-at (λ p. piece_waits p.piece) c.args.cut.now c.loop-here.here-index (record { to = c.here.inside.to.0; piece = c.here.inside.desk }) c.loop-here.left c.args.i _ lt (cc) c.in-Ok.ensures.found c.loop-here.invariant

pub loop-here-preserved : goal.loop-here-preserved
loop-here-preserved g c =
    let lt : c.loop-here.here-index < length c.args.cut.now = omega arith in
    let v = c.here.view_is in let read = c.here-item.is in
    next-at (λ p. piece_waits p.piece) c.args.cut.now c.loop-here.here-index (record { to = c.here.inside.to.0; piece = c.here.inside.desk }) c.loop-here.left c.in-Err.rest c.args.i lt (cc) c.in-Err.ensures.beyond c.loop-here.invariant
