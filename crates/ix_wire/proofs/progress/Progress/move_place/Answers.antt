use Rattle.std.proofs.Common.{arith}
use Rattle.ix_wire.proofs.ProgressLaws.{move_run-passes}
use Rattle.ix_wire.proofs.progress.Progress.move_place.Goals as goal

pub returns-clause-is : goal.returns-clause-is
returns-clause-is c =
    rw (move_run-passes c.args.place c.args.to c.width-width.result c.args.self.now c.width-width.ensures (grind arith) (grind arith) (grind arith))
    c.move_groups.ensures.is
