use Rattle.std.proofs.Common.{◌≡◌, drop}
use Rattle.ix_parts.specs.Division.{copied_of}
use Rattle.ix_parts.proofs.division.copied_half.Given as goal

abbrev pub invariant-loop-chunk : goal.invariant-loop-chunk
invariant-loop-chunk l = copied_of l.left (drop l.chunk-index l.chunks) ≡ copied_of l.fn.n l.fn.chunks
