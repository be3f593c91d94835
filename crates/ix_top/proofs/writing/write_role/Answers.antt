use Rattle.std.proofs.Common.{arith}
use Rattle.std.proofs.lemmas.Grind.{common_steps}
use Rattle.ix_top.proofs.Runs.{writes_next}
use Rattle.ix_top.proofs.writing.write_role.Goals as goal

pub loop-done-preserved : goal.loop-done-preserved
loop-done-preserved g c = record {
  within = grind arith;
  written = writes_next _ _ _ _ _ _ _ _ (grind (arith, common_steps)) c.loop-done.invariant.written c.in_ok-done.ensures.state;
}
