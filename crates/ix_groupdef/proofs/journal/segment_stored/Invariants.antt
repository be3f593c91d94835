use Rattle.std.proofs.Common.{◌≡◌, drop}
use Rattle.ix_groupdef.specs.Journal.{segment_stored}
use Rattle.ix_groupdef.proofs.journal.segment_stored.Given as goal

abbrev pub invariant-loop-stored : goal.invariant-loop-stored
invariant-loop-stored l = segment_stored l.w (drop l.stored-index l.entries) ≡ segment_stored l.fn.w l.fn.entries
