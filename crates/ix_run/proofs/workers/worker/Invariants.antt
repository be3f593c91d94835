use Rattle.std.proofs.Common.{◌<◌}
use Rattle.ix_run.proofs.workers.worker.Given as goal

abbrev pub invariant-loop-turn : goal.invariant-loop-turn
invariant-loop-turn g l = record {
  own : g.A.Actor.became l.env l.initial.actor l.actor;
  idle : l.idle < 10000;
}
