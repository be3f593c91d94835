-- The names of the chunks' buffers weigh what the chunks weigh.
use Rattle.std.proofs.Common.{◌≡◌, ℕ, List, [], ◌∷◌, refl, arith}
use Rattle.std.proofs.lemmas.List.Sums.{sum_by-cons}
use Rattle.ix_mbuf.specs.declared.name.Name.{Name}
use Rattle.ix_mbuf.specs.Owners.{weigh}
use Rattle.ix_call.specs.declared.chunk.Chunk.{Chunk}
use Rattle.ix_call.specs.declared.chunk.Chunk.TheVariants.{Part, Own}
use Rattle.ix_call.specs.Chunks.{chunk_weight, chunks_weight, chunks_names}

pub weigh-chunks_names : (f : Name → ℕ) (cs : List Chunk) → weigh f (chunks_names cs) ≡ chunks_weight f cs
weigh-chunks_names f [] = refl
weigh-chunks_names f (Part p ∷ cs) =
    omega (arith, sum_by-cons f p.buf.name (chunks_names cs), sum_by-cons (chunk_weight f) (Part p) cs, weigh-chunks_names f cs)
weigh-chunks_names f (Own bytes ∷ cs) = omega (arith, sum_by-cons (chunk_weight f) (Own bytes) cs, weigh-chunks_names f cs)

pub ruleset chunk_laws = (weigh-chunks_names)
