use Rattle.std.proofs.Common.{◌≡◌, ◌+◌, ◌++◌, ◌≤◌, length, count_by, vec_len, vec_capacity}
use Rattle.ix_desk.specs.Pieces.{ready}
use Rattle.ix_desk.specs.Steps.{up_to}
use Rattle.ix_desk.proofs.batches.Desk+U+U+Item.batch.Given as goal

abbrev pub invariant-loop-left : goal.invariant-loop-left
invariant-loop-left g l = record {
  count : l.left + count_by g.U.Unit.counted l.batch.items ≡ l.initial.left;
  taken : ready l.initial.self ≡ l.batch.items ++ ready l.self;
  batch : up_to g.U.Unit.counted l.initial.left (ready l.initial.self) ≡ l.batch.items ++ up_to g.U.Unit.counted l.left (ready l.self);
  room : vec_len l.batch + length (ready l.self) ≤ vec_capacity l.batch;
  tenure : l.self.tenure ≡ l.initial.self.tenure;
  tagged : l.self.tagged ≡ l.initial.self.tagged;
  unit : l.self.unit ≡ l.initial.self.unit;
  behind : l.self.behind ≡ l.initial.self.behind;
}

abbrev pub decreases-loop-left : goal.decreases-loop-left
decreases-loop-left g l = length (ready l.self)
