use Rattle.std.proofs.Common.{◌≡◌, ◌<◌, ◌≤◌, ℕ, length, get_or}
use Rattle.ix_nic.specs.Cards.{settled}
use Rattle.ix_nic.specs.Ports.{PortView}
use Rattle.ix_nic.proofs.nic.settle.Given as goal

abbrev pub invariant-loop-port : goal.invariant-loop-port
invariant-loop-port l = record {
  count : length l.ports ≡ length l.initial.ports;
  done : (r : ℕ) (d : PortView) → r < l.port-index → get_or l.ports r d ≡ settled (get_or l.initial.ports r d);
  rest : (r : ℕ) (d : PortView) → l.port-index ≤ r → get_or l.ports r d ≡ get_or l.initial.ports r d;
}
