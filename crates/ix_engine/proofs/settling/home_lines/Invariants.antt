use Rattle.std.proofs.Common.{◌≡◌, map, take}
use Rattle.ix_engine.specs.Steps.{home_line}
use Rattle.ix_engine.proofs.settling.home_lines.Given as goal

abbrev pub invariant-loop-home : goal.invariant-loop-home
invariant-loop-home l = l.lines.items ≡ map home_line (take l.home-index l.homes)
