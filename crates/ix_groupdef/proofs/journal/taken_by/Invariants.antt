use Rattle.std.proofs.Common.{◌≡◌, drop}
use Rattle.ix_groupdef.specs.Journal.{taken_by}
use Rattle.ix_groupdef.proofs.journal.taken_by.Given as goal

abbrev pub invariant-loop-output : goal.invariant-loop-output
invariant-loop-output l = taken_by (drop l.output-index l.outputs) ≡ taken_by l.fn.outputs
