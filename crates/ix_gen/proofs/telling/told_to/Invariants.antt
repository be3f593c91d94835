use Rattle.std.proofs.Common.{◌≡◌, ◌+◌, ◌<◌, ◌^◌, drop}
use Rattle.ix_gen.specs.Summary.{told_to, capped, total}
use Rattle.ix_gen.proofs.telling.told_to.Given as goal

abbrev pub invariant-loop-conn : goal.invariant-loop-conn
invariant-loop-conn l = (capped (l.told + total told_to (drop l.conn-index l.conns)) ≡ capped (total told_to l.conns)) × (l.told < 2 ^ 64)
