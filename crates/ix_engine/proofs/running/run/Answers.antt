use Rattle.std.proofs.Common.{rules}
use Rattle.ix_engine.specs.Courses.{engine_of}
use Rattle.ix_engine.proofs.running.run.Goals as goal

pub returns-clause-run : goal.returns-clause-run
returns-clause-run g c = record {
  line = c.in_ok-env.field-0.line;
  first = engine_of c.in_ok-env.field-0.machine;
  begins = c.in_ok-env.ensures.begun;
  lines = c.in_ok-machine.later.items;
  steps = c.in_ok-machine.ensures.steps;
  settles_are = search rules;
  out = c.in_ok-machine.ensures.out;
}
