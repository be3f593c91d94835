-- Chunks as plain data: their bytes, their buffers, and what these weigh.
use Rattle.std.specs.Prelude.{ℕ, List, Option, Some, None, sum_by}
use Rattle.std.specs.List.{flat_map}
use Rattle.std.specs.Option.{option_to_list}
use Rattle.ix_base.specs.declared.id.BufId.{BufId}
use Rattle.ix_mbuf.specs.declared.name.Name.{Name}
use Rattle.ix_mbuf.specs.Buffers.{Buffer, piece_bytes}
use Rattle.ix_call.specs.declared.chunk.Chunk.{Chunk}
use Rattle.ix_call.specs.declared.chunk.Chunk.TheVariants.{Part, Own}

abbrev pub chunk_bytes : Chunk → List ℕ
chunk_bytes (Part p) = piece_bytes p
chunk_bytes (Own bytes) = bytes

-- the bytes of all chunks, one behind the other
abbrev pub chunks_bytes : List Chunk → List ℕ
chunks_bytes cs = flat_map chunk_bytes cs

abbrev pub chunk_id : Chunk → Option BufId
chunk_id (Part p) = Some p.buf.name.id
chunk_id (Own bytes) = None

abbrev pub chunk_name : Chunk → Option Name
chunk_name (Part p) = Some p.buf.name
chunk_name (Own bytes) = None

abbrev pub chunk_buffer : Chunk → Option Buffer
chunk_buffer (Part p) = Some p.buf
chunk_buffer (Own bytes) = None

-- the buffers of the chunks that are parts, in order
abbrev pub chunks_buffers : List Chunk → List Buffer
chunks_buffers cs = flat_map (λ c. option_to_list (chunk_buffer c)) cs

-- bytes of the application's own weigh nothing
abbrev pub chunk_weight : (Name → ℕ) → Chunk → ℕ
chunk_weight f (Part p) = f p.buf.name
chunk_weight f (Own bytes) = 0

abbrev pub chunks_weight : (Name → ℕ) → List Chunk → ℕ
chunks_weight f cs = sum_by (chunk_weight f) cs

-- the names of the buffers of the chunks, in order
abbrev pub chunks_names : List Chunk → List Name
chunks_names cs = flat_map (λ c. option_to_list (chunk_name c)) cs
