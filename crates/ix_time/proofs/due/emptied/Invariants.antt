use Rattle.std.proofs.Common.{◌≡◌, ◌++◌, drop}
use Rattle.ix_time.specs.Due.{emptied}
use Rattle.ix_time.proofs.due.emptied.Given as goal

abbrev pub invariant-loop-place : goal.invariant-loop-place
invariant-loop-place l = l.entries.items ++ emptied l.clock l.now l.place (drop l.place l.places) ≡ emptied l.clock l.now 0 l.places
