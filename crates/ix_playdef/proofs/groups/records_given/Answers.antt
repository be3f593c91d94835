use Rattle.std.proofs.Common.{rules, arith}
use Rattle.std.proofs.lemmas.Grind.{common_steps}
use Rattle.ix_playdef.proofs.GroupLaws.{records-more}
use Rattle.ix_playdef.proofs.groups.records_given.Goals as goal

pub loop-given-preserved : goal.loop-given-preserved
loop-given-preserved c = record {
  rest = grind (arith, common_steps);
  left = records-more _ _ _ c.loop-given.records.items _ _ _ c.in_ok-left.left c.in_ok-push.ensures.items c.loop-given.invariant.left (search rules) c.in_ok-left.ensures;
}
