use Rattle.std.proofs.Common.{◌≡◌, ◌≤◌, ◌+◌, ◌++◌, length, vec_len, vec_capacity}
use Rattle.std.specs.Prelude.{filter}
use Rattle.std.specs.VecDeque.{deque_len, deque_capacity}
use Rattle.ix_call.specs.Chunks.{chunks_buffers}
use Rattle.ix_parts.specs.Queue.{chunks_seen, is_filled, is_empty}
use Rattle.ix_parts.proofs.queue.put_all.Given as goal

abbrev pub invariant-loop-chunk : goal.invariant-loop-chunk
invariant-loop-chunk l = record {
  chunks : chunks_seen l.chunks.items ++ filter is_filled l.chunk-iterator.rest.items ≡ chunks_seen l.initial.chunks.items ++ filter is_filled l.initial.chunk-iterator.rest.items;
  freed : l.freed.items ++ chunks_buffers (filter is_empty l.chunk-iterator.rest.items) ≡ l.initial.freed.items ++ chunks_buffers (filter is_empty l.initial.chunk-iterator.rest.items);
  room : deque_len l.chunks + length l.chunk-iterator.rest.items ≤ deque_capacity l.chunks;
  freed_room : vec_len l.freed + length l.chunk-iterator.rest.items ≤ vec_capacity l.freed;
  capacity : vec_capacity l.freed ≡ vec_capacity l.initial.freed;
}
