use Rattle.ix_playdef.proofs.Lists.{TimesUpTo}
use Rattle.ix_playdef.proofs.wire.give_time.Given as goal

abbrev pub invariant-loop-list : goal.invariant-loop-list
invariant-loop-list l = TimesUpTo l.w.0 l.t l.list-index l.fn.lists l.lists
