use Rattle.std.proofs.Common.{◌≡◌, ◌≤◌, ◌+◌, ◌++◌, vec_len, vec_capacity}
use Rattle.std.specs.VecDeque.{deque_len}
use Rattle.ix_parts.specs.Queue.{chunks_seen, after, gone}
use Rattle.ix_parts.proofs.queue.take_off.Given as goal

abbrev pub invariant-loop-first : goal.invariant-loop-first
invariant-loop-first l = record {
  chunks : after l.left (chunks_seen l.chunks.items) ≡ after l.initial.left (chunks_seen l.initial.chunks.items);
  freed : l.freed.items ++ gone l.left (chunks_seen l.chunks.items) ≡ l.initial.freed.items ++ gone l.initial.left (chunks_seen l.initial.chunks.items);
  room : vec_len l.freed + deque_len l.chunks ≤ vec_capacity l.freed;
  capacity : vec_capacity l.freed ≡ vec_capacity l.initial.freed;
}

abbrev pub decreases-loop-first : goal.decreases-loop-first
decreases-loop-first l = deque_len l.chunks
