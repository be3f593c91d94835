-- Chunks that are divided behind their first n bytes. A part that is cut inside lends its front as a copy, and goes to the rest itself.
use Rattle.std.specs.Prelude.{ℕ, ◌+◌, ◌-◌, ◌==◌, nat_le, ◌||◌, if◌then◌else◌, List, [], ◌∷◌, ◌++◌, length, take, drop}
use Rattle.ix_mbuf.specs.Buffers.{piece_bytes}
use Rattle.ix_call.specs.declared.chunk.Chunk.{Chunk}
use Rattle.ix_call.specs.declared.chunk.Chunk.TheVariants.{Part, Own}
use Rattle.ix_call.specs.Chunks.{chunk_bytes}

-- a chunk without its first n bytes
abbrev pub skip : ℕ → Chunk → Chunk
skip n (Part p) = Part (record p { from = p.from + n })
skip n (Own bytes) = Own (drop n bytes)

-- What a rule gives of each chunk, one behind the other; it is told how many of the first n bytes are left when the chunk comes.
abbrev pub each_of : {A : Type 0} → (ℕ → Chunk → List A) → ℕ → List Chunk → List A
each_of f n [] = []
each_of f n (c ∷ cs) = f n c ++ each_of f (n - length (chunk_bytes c)) cs

-- of one chunk: what carries its bytes among the first n, and what carries the others
abbrev pub front_part : ℕ → Chunk → List Chunk
front_part n c =
    if n == 0 then [] else if nat_le (length (chunk_bytes c)) n then c ∷ [] else Own (take n (chunk_bytes c)) ∷ []

abbrev pub rest_part : ℕ → Chunk → List Chunk
rest_part n c = if n == 0 then c ∷ [] else if nat_le (length (chunk_bytes c)) n then [] else skip n c ∷ []

-- Chunks are taken as they are while bytes are left for them; of the one that is cut inside the front is bytes of its own.
abbrev pub front_of : ℕ → List Chunk → List Chunk
front_of n cs = each_of front_part n cs

abbrev pub rest_of : ℕ → List Chunk → List Chunk
rest_of n cs = each_of rest_part n cs

-- ## What has to be copied: the front of a part that is cut inside, the rest of bytes of the application's own
abbrev pub other_half : ℕ → Chunk → List ℕ
other_half n (Part p) = take n (piece_bytes p)
other_half n (Own bytes) = drop n bytes

abbrev pub copied_part : ℕ → Chunk → List ℕ
copied_part n c = if n == 0 || nat_le (length (chunk_bytes c)) n then [] else other_half n c

abbrev pub copied_of : ℕ → List Chunk → List ℕ
copied_of n cs = each_of copied_part n cs
