use Rattle.std.proofs.Common.{◌≡◌, ◌≤◌, ◌*◌, take}
use Rattle.ix_nic.specs.Cards.{all_waiting}
use Rattle.ix_nic.proofs.nic.waiting.Given as goal

abbrev pub invariant-loop-port : goal.invariant-loop-port
invariant-loop-port l = record { sum : l.sum ≡ all_waiting (take l.port-index l.ports); few : l.sum ≤ 1024 * l.port-index }
