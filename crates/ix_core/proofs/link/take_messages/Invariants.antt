use Rattle.std.proofs.Common.{◌+◌, ◌≤◌, deque_len, deque_capacity, vec_len, vec_capacity}
use Rattle.ix_ring.specs.Ends.{SameTakeEnd}
use Rattle.ix_core.specs.Landing.{TakesSome}
use Rattle.ix_core.proofs.link.take_messages.Given as goal

abbrev pub invariant-loop-count : goal.invariant-loop-count
invariant-loop-count g l = record {
  ring : SameTakeEnd l.initial.take l.take;
  so : TakesSome l.count l.initial.take l.take l.initial.ships.items l.ships.items l.initial.returns.items l.returns.items;
  room : deque_len l.ships + l.most ≤ deque_capacity l.ships + l.count;
  space : vec_len l.returns + l.most ≤ vec_capacity l.returns + l.count;
}
