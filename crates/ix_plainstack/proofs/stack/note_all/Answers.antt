use Rattle.std.proofs.Common.{◌+◌, ◌<◌, ◌++◌, [], ◌∷◌, ◌∙◌, ap, drop, map, length, arith}
use Rattle.ix_stack.specs.declared.work.Work.{Work}
use Rattle.ix_plainstack.specs.Batches.{work_number}
use Rattle.ix_plainstack.specs.Stack.{step_pair, steps_of}
use Rattle.ix_plainstack.proofs.CycleSteps.{steps-next}
use Rattle.ix_plainstack.proofs.stack.note_all.Goals as goal

pub loop-item-preserved : goal.loop-item-preserved
loop-item-preserved c =
    let lt : c.loop-item.item-index < length c.args.items.now = omega arith in
    ap (λ ps. ps ++ steps_of c.args.core.0 (drop (c.loop-item.item-index + 1) c.args.items.now)) (c.in_ok-note.ensures ∙ ap (λ (x : Work). map step_pair c.loop-item.stepped.items ++ (work_number x, c.args.core.0) ∷ []) c.item-item.is)
    ∙ steps-next c.args.core.0 c.args.items.now c.loop-item.item-index c.item-item.result (map step_pair c.loop-item.stepped.items) lt
    ∙ c.loop-item.invariant
