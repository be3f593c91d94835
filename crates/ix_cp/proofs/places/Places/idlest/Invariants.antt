use Rattle.std.proofs.Common.{◌≡◌, ◌<◌}
use Rattle.std.specs.Prelude.{IfSome}
use Rattle.ix_cp.specs.Plan.{idlest}
use Rattle.ix_cp.proofs.places.Places.idlest.Given as goal

abbrev pub invariant-loop-core : goal.invariant-loop-core
invariant-loop-core l = record {
  best : l.best ≡ idlest l.self l.live l.core;
  bound : IfSome l.best (λ b. b < 8);
}
