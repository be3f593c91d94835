use Rattle.std.proofs.Common.{◌≡◌, ◌<◌, ℕ, true, get_or}
use Rattle.ix_core.specs.declared.turning.Core.{Core}
use Rattle.ix_core.specs.Cores.{CoreBecame}
use Rattle.ix_core.specs.Homing.{Passed}
use Rattle.ix_epochs.specs.Rest.{CoreRests}
use Rattle.ix_epochs.proofs.running.turn_cores.Given as goal

abbrev pub invariant-loop-place : goal.invariant-loop-place
invariant-loop-place g l = record {
  passed : Passed (CoreBecame g.G.Unit.counted g.G.Unit.name g.G.Unit.stepped g.G.Unit.advanced g.G.GroupStack.drained l.env) l.place l.initial.cores l.cores;
  rest : l.all_rest ≡ true → (c : ℕ) (d : Core g.row.G.Denot g.row.G-Env.Denot) → c < l.place → CoreRests g.G.GroupStack.drained (get_or l.cores c d);
}
