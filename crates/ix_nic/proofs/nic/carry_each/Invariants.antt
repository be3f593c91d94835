use Rattle.std.proofs.Common.{◌≡◌, ◌<◌, ◌≤◌, ℕ, length, get_or}
use Rattle.ix_nic.specs.Controls.{item_on}
use Rattle.ix_nic.specs.Ports.{PortView, Puts}
use Rattle.ix_nic.proofs.nic.carry_each.Given as goal

abbrev pub invariant-loop-ring : goal.invariant-loop-ring
invariant-loop-ring l = record {
  count : length l.ports ≡ length l.initial.ports;
  done : (r : ℕ) (d : PortView) → r < l.ring → Puts (item_on l.control r) (get_or l.initial.ports r d) (get_or l.ports r d);
  rest : (r : ℕ) (d : PortView) → l.ring ≤ r → get_or l.ports r d ≡ get_or l.initial.ports r d;
}
