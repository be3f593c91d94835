use Rattle.ix_decide.specs.Points.{played}
use Rattle.ix_decide.proofs.OwnerLaws.{groups-first}
use Rattle.ix_decide.proofs.owners.all_out.Goals as goal

pub loop-group-init : goal.loop-group-init
loop-group-init c = groups-first (played c.args.play.now) c.args.done.now c.new-outs.result.items c.new-outs.ensures.items
