use Rattle.std.proofs.Common.{arith}
use Rattle.std.proofs.lemmas.Grind.{common_steps}
use Rattle.ix_cp.proofs.PlanLaws.{even_steps, evening_moves-over}
use Rattle.ix_cp.proofs.plan.even_out.Goals as goal

pub returns-in-None : goal.returns-in-None
returns-in-None c = grind (arith, common_steps, even_steps)

pub loop-left-preserved : goal.loop-left-preserved
loop-left-preserved c = grind (arith, common_steps, even_steps)

pub returns : goal.returns
returns c =
    evening_moves-over c.args.live.now c.loop-left.left c.loop-left.places c.loop-left.moves.items _ (omega arith) c.loop-left.invariant
