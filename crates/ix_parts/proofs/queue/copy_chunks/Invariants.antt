use Rattle.std.proofs.Common.{◌≡◌, ◌++◌, ℕ, List, take, drop}
use Rattle.ix_call.specs.Chunks.{chunks_bytes}
use Rattle.ix_parts.specs.Queue.{chunks_seen}
use Rattle.ix_parts.proofs.queue.copy_chunks.Given as goal

abbrev pub invariant-loop-stored : goal.invariant-loop-stored
invariant-loop-stored l =
    (rest : List ℕ) → l.copied ++ take l.span.most (drop l.span.skip (chunks_bytes (chunks_seen (drop l.stored-index l.chunks)) ++ rest)) ≡ l.fn.copied ++ take l.fn.span.most (drop l.fn.span.skip (chunks_bytes (chunks_seen l.fn.chunks) ++ rest))
