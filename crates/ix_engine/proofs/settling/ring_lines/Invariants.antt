use Rattle.std.proofs.Common.{◌≡◌, map, take}
use Rattle.ix_engine.specs.Steps.{ring_line}
use Rattle.ix_engine.proofs.settling.ring_lines.Given as goal

abbrev pub invariant-loop-counts : goal.invariant-loop-counts
invariant-loop-counts l = l.lines.items ≡ map ring_line (take l.counts-index l.rings)
