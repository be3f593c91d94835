use Rattle.std.proofs.Common.{◌≡◌, ◌≤◌, ◌+◌, ◌++◌, vec_len, vec_capacity}
use Rattle.std.specs.VecDeque.{deque_len}
use Rattle.ix_call.specs.Chunks.{chunks_buffers}
use Rattle.ix_parts.specs.Queue.{chunks_seen}
use Rattle.ix_parts.proofs.queue.take_all.Given as goal

abbrev pub invariant-loop-first : goal.invariant-loop-first
invariant-loop-first l = record {
  freed : l.freed.items ++ chunks_buffers (chunks_seen l.chunks.items) ≡ l.initial.freed.items ++ chunks_buffers (chunks_seen l.initial.chunks.items);
  room : vec_len l.freed + deque_len l.chunks ≤ vec_capacity l.freed;
  capacity : vec_capacity l.freed ≡ vec_capacity l.initial.freed;
}

abbrev pub decreases-loop-first : goal.decreases-loop-first
decreases-loop-first l = deque_len l.chunks
