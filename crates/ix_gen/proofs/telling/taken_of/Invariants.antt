use Rattle.std.proofs.Common.{◌≡◌, ◌+◌, ◌<◌, ◌^◌, drop}
use Rattle.ix_gen.specs.Summary.{taken_of, capped, total}
use Rattle.ix_gen.proofs.telling.taken_of.Given as goal

abbrev pub invariant-loop-conn : goal.invariant-loop-conn
invariant-loop-conn l = (capped (l.taken + total taken_of (drop l.conn-index l.conns)) ≡ capped (total taken_of l.conns)) × (l.taken < 2 ^ 64)
