use Rattle.std.proofs.Common.{◌≡◌, ◌≤◌, ◌+◌, ◌++◌, ℕ, length, vec_len, vec_capacity}
use Rattle.ix_mbuf.specs.declared.name.Name.{Name}
use Rattle.ix_mbuf.specs.Buffers.{buffers_weight}
use Rattle.ix_call.specs.Chunks.{chunks_weight, chunks_buffers}
use Rattle.ix_call.proofs.chunk.release.Given as goal

abbrev pub invariant-loop-chunk : goal.invariant-loop-chunk
invariant-loop-chunk l = record {
  freed : l.freed.items ++ chunks_buffers l.chunk-iterator.rest.items ≡ l.initial.freed.items ++ chunks_buffers l.initial.chunk-iterator.rest.items;
  weight : (f : Name → ℕ) → buffers_weight f l.freed.items + chunks_weight f l.chunk-iterator.rest.items ≡ buffers_weight f l.initial.freed.items + chunks_weight f l.initial.chunk-iterator.rest.items;
  room : vec_len l.freed + length l.chunk-iterator.rest.items ≤ vec_capacity l.freed;
  capacity : vec_capacity l.freed ≡ vec_capacity l.initial.freed;
}
