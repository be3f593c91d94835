use Rattle.std.proofs.Common.{◌+◌, ◌<◌, ◌++◌, ◌∙◌, ap, drop, length, arith}
use Rattle.ix_groupdef.specs.Life.{Life}
use Rattle.ix_groupdef.specs.Owners.{is_with_app, is_queued}
use Rattle.ix_plainstack.specs.Numbers.{held_by, parts_by, held_numbers, app_numbers, queue_numbers}
use Rattle.ix_plainstack.proofs.NumberSteps.{lives-next}
use Rattle.ix_plainstack.proofs.numbers.Numbers.of.Goals as goal

pub loop-life-preserved : goal.loop-life-preserved
loop-life-preserved c =
    let lt : c.loop-life.life-index < length c.args.lives.now = omega arith in
    record {
      held = ap (λ ws. ws ++ held_numbers (drop (c.loop-life.life-index + 1) c.args.lives.now)) (c.in_ok-note_held.ensures ∙ ap (λ (l : Life). c.loop-life.held.items ++ held_by l) c.life-item.is)
          ∙ lives-next held_by c.args.lives.now c.loop-life.life-index c.life-item.result c.loop-life.held.items lt
          ∙ c.loop-life.invariant.held;
      app = ap (λ ws. ws ++ app_numbers c.args.whole (drop (c.loop-life.life-index + 1) c.args.lives.now))
          (c.in_ok-note_told.ensures.app ∙ ap (λ (l : Life). c.loop-life.app.items ++ parts_by is_with_app c.args.whole l) c.life-item.is)
          ∙ lives-next (parts_by is_with_app c.args.whole) c.args.lives.now c.loop-life.life-index c.life-item.result c.loop-life.app.items lt
          ∙ c.loop-life.invariant.app;
      queue = ap (λ ws. ws ++ queue_numbers c.args.whole (drop (c.loop-life.life-index + 1) c.args.lives.now))
          (c.in_ok-note_told.ensures.queue ∙ ap (λ (l : Life). c.loop-life.queue.items ++ parts_by is_queued c.args.whole l) c.life-item.is)
          ∙ lives-next (parts_by is_queued c.args.whole) c.args.lives.now c.loop-life.life-index c.life-item.result c.loop-life.queue.items lt
          ∙ c.loop-life.invariant.queue;
    }
