use Rattle.std.proofs.Common.{◌≤◌, ◌-◌, length, take}
use Rattle.ix_base.specs.Host.{Writes}
use Rattle.ix_top.proofs.writing.write_role.Given as goal

abbrev pub invariant-loop-done : goal.invariant-loop-done
invariant-loop-done g l = record {
  within : l.done ≤ length l.bytes;
  written : Writes l.role (take l.done l.bytes) (g.H.Host.state l.fn.host) (g.H.Host.state l.host);
}

abbrev pub decreases-loop-done : goal.decreases-loop-done
decreases-loop-done g l = length l.bytes - l.done
