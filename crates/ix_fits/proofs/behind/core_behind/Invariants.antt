use Rattle.std.proofs.Common.{◌≡◌, drop}
use Rattle.ix_fits.specs.Behind.{core_after, table_behind}
use Rattle.ix_fits.proofs.behind.core_behind.Given as goal

abbrev pub invariant-loop-entry : goal.invariant-loop-entry
invariant-loop-entry l = core_after l.group.0 l.core.0 (drop l.entry-index l.done) ≡ (table_behind l.live l.done l.group.0).core
