use Rattle.std.proofs.Common.{◌≡◌, ◌-◌, length}
use Rattle.ix_engine.specs.Courses.{CanGoOn, engine_of}
use Rattle.ix_engine.specs.Steps.{EpochSteps}
use Rattle.ix_engine.proofs.course.run_epochs.Given as goal

abbrev pub invariant-loop-alloc : goal.invariant-loop-alloc
invariant-loop-alloc g l = record {
  steps : EpochSteps l.env (engine_of l.fn.machine) l.settles.items (engine_of l.now);
  can : CanGoOn (engine_of l.now);
  entries : l.now.replay.entries ≡ l.fn.machine.replay.entries;
}

abbrev pub decreases-loop-alloc : goal.decreases-loop-alloc
decreases-loop-alloc g l = length l.now.replay.entries - length l.now.replay.lines
