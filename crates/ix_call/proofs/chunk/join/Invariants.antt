use Rattle.std.proofs.Common.{◌≡◌, take}
use Rattle.ix_call.specs.Chunks.{chunks_bytes}
use Rattle.ix_call.proofs.chunk.join.Given as goal

abbrev pub invariant-loop-chunk : goal.invariant-loop-chunk
invariant-loop-chunk l = l.bytes ≡ chunks_bytes (take l.chunk-index l.chunks)
