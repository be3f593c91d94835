use Rattle.std.proofs.Common.{◌≡◌, drop}
use Rattle.ix_out.specs.Out.{are_homes_of}
use Rattle.ix_out.proofs.settles.are_homes_of.Given as goal

abbrev pub invariant-loop-core : goal.invariant-loop-core
invariant-loop-core l = are_homes_of l.entries l.outs l.core (drop l.core l.homes) ≡ are_homes_of l.entries l.outs 0 l.homes
