use Rattle.std.proofs.Common.{◌≡◌, ◌++◌, drop}
use Rattle.ix_plainstack.specs.Numbers.{held_numbers, app_numbers, queue_numbers}
use Rattle.ix_plainstack.proofs.numbers.Numbers.of.Given as goal

abbrev pub invariant-loop-life : goal.invariant-loop-life
invariant-loop-life l =
    record {
      held : l.held.items ++ held_numbers (drop l.life-index l.lives) ≡ held_numbers l.lives;
      app : l.app.items ++ app_numbers l.whole (drop l.life-index l.lives) ≡ app_numbers l.whole l.lives;
      queue : l.queue.items ++ queue_numbers l.whole (drop l.life-index l.lives) ≡ queue_numbers l.whole l.lives;
    }
