use Rattle.std.proofs.Common.{◌+◌, ◌<◌, ◌++◌, [], ◌∷◌, ◌∙◌, ap, drop, map, length, arith}
use Rattle.ix_stack.specs.declared.work.Taken.{Taken}
use Rattle.ix_plainstack.specs.Batches.{accepted_as}
use Rattle.ix_plainstack.proofs.CycleSteps.{accepted-next}
use Rattle.ix_plainstack.proofs.owning.all_accepted.Goals as goal

pub loop-taken-preserved : goal.loop-taken-preserved
loop-taken-preserved c =
    let lt : c.loop-taken.taken-index < length c.args.frames.now = omega arith in
    record {
      same = ap (λ ts. ts ++ map accepted_as (drop (c.loop-taken.taken-index + 1) c.args.frames.now)) (c.in_ok-accept_one.ensures.same ∙ ap (λ (t : Taken). c.loop-taken.accepted ++ accepted_as t ∷ []) c.taken-item.is)
          ∙ accepted-next c.args.frames.now c.loop-taken.taken-index c.taken-item.result c.loop-taken.accepted lt
          ∙ c.loop-taken.invariant.same;
      size = c.in_ok-accept_one.ensures.size c.loop-taken.invariant.size;
    }
