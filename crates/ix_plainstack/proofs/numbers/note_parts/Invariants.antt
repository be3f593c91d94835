use Rattle.std.proofs.Common.{◌≡◌, ◌++◌, drop}
use Rattle.ix_groupdef.specs.Owners.{ended_from, is_with_app, is_queued}
use Rattle.ix_plainstack.specs.Numbers.{numbers_where}
use Rattle.ix_plainstack.proofs.numbers.note_parts.Given as goal

abbrev pub invariant-loop-piece : goal.invariant-loop-piece
invariant-loop-piece l =
    record {
      app : l.app.items ++ numbers_where (is_with_app l.connection) (ended_from l.told (drop l.piece-index l.pieces)) ≡ l.fn.app.items ++ numbers_where (is_with_app l.connection) (ended_from 0 l.pieces);
      queue : l.queue.items ++ numbers_where (is_queued l.connection) (ended_from l.told (drop l.piece-index l.pieces)) ≡ l.fn.queue.items ++ numbers_where (is_queued l.connection) (ended_from 0 l.pieces);
    }
