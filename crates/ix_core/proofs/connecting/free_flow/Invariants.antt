use Rattle.std.proofs.Common.{◌≡◌, ◌<◌, ◌+◌, ℕ, false}
use Rattle.ix_core.specs.Connecting.{is_free}
use Rattle.ix_core.proofs.connecting.free_flow.Given as goal

abbrev pub invariant-loop-step : goal.invariant-loop-step
invariant-loop-step g l = (k : ℕ) → k < l.step → is_free g.G.GroupStack.holds l.desks (g.G.GroupStack.flow_from l.env l.ip l.port (49152 + k)) ≡ false
