use Rattle.std.proofs.Common.{◌≡◌, length, ◌+◌, ◌-◌}
use Rattle.ix_base.specs.Host.{Reads}
use Rattle.ix_top.proofs.reading.read_role.Given as goal

abbrev pub invariant-loop-role : goal.invariant-loop-role
invariant-loop-role g l = record {
  read : Reads l.role l.bytes.items (g.H.Host.state l.fn.host) (g.H.Host.state l.host);
  chunk : length l.chunk.items ≡ 65536;
}

abbrev pub decreases-loop-role : goal.decreases-loop-role
decreases-loop-role g l = l.limit + 1 - length l.bytes.items
