use Rattle.std.proofs.Common.{arith}
use Rattle.std.proofs.lemmas.Grind.{common_steps}
use Rattle.ix_wire.proofs.RecordLaws.{counted, record_steps}
use Rattle.ix_wire.proofs.records.Records.new.Goals as goal
use Rattle.ix_wire.proofs.records.Records.new.Goals.{then-not-is_own+in_ok-push-2, else-not-is_own}

pub loop-rec-init : goal.loop-rec-init
loop-rec-init c = record {
  others = grind (arith, record_steps, c.new-others.ensures.items);
  count = grind (arith, c.new-before.ensures.items);
  each = λ n h. absurd (omega arith);
}

pub loop-rec-preserved : goal.loop-rec-preserved
loop-rec-preserved c = record {
  others =
      elim c.if-not-is_own.branch [
        | then-not-is_own+in_ok-push-2 w ↦ grind (arith, record_steps, w.in_ok-push-2.ensures.items)
        | else-not-is_own w ↦ grind (arith, record_steps)
      ];
  count = grind (arith, common_steps, c.in_ok-push.ensures.items);
  each = rw (c.in_ok-push.ensures.items, c.len.ensures) (counted c.args.own.now c.loop-rec.others.items c.loop-rec.before.items c.loop-rec.rec _ (omega arith)
      c.loop-rec.invariant.others c.loop-rec.invariant.count c.loop-rec.invariant.each);
}
