use Rattle.std.proofs.Common.{◌≡◌, ◌++◌, length, drop}
use Rattle.ix_cp.specs.Plan.{leaving_moves}
use Rattle.ix_cp.proofs.plan.give_up.Given as goal

abbrev pub invariant-loop-place : goal.invariant-loop-place
invariant-loop-place l = record {
  moves : l.moves.items ++ leaving_moves l.others l.core.0 l.place l.places (drop l.place l.at) ≡ leaving_moves l.others l.core.0 0 l.at l.at;
  count : length l.places ≡ length l.at;
}
