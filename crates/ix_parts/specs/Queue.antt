-- The send queue of a connection: the chunks that carry its bytes from SND.UNA on, sent or not (RFC 9293, section 3.3.1).
use Rattle.std.specs.Prelude.{ℕ, ◌+◌, ◌-◌, ◌<◌, nat_le, nat_lt, Bool, not, if◌then◌else◌, List, [], ◌∷◌, ◌++◌, length, take, drop, map}
use Rattle.std.specs.List.{All}
use Rattle.std.specs.Option.{option_to_list}
use Rattle.ix_mbuf.specs.Buffers.{Buffer}
use Rattle.ix_call.specs.declared.chunk.Chunk.{Chunk}
use Rattle.ix_call.specs.declared.chunk.Chunk.TheVariants as chunks_are
use Rattle.ix_call.specs.Chunks.{chunk_bytes, chunks_bytes, chunk_buffer}
use Rattle.ix_parts.specs.declared.queue.Stored.{Stored}
use Rattle.ix_parts.specs.declared.queue.Stored.TheVariants as stored
use Rattle.ix_parts.specs.Division.{skip}

-- capacity: for how many chunks there is room
pub record Queue : Type 0 where
  pub chunks : List Chunk
  pub capacity : ℕ

-- ## How it is stored: of bytes of the application's own a number of the first has left
abbrev pub seen : Stored → Chunk
seen (stored.Part p) = chunks_are.Part p
seen (stored.Own bytes from) = chunks_are.Own (drop from bytes)

abbrev pub chunks_seen : List Stored → List Chunk
chunks_seen cs = map seen cs

-- ## Which chunks stand in it: none is empty
abbrev pub is_filled : Chunk → Bool
is_filled c = nat_lt 0 (length (chunk_bytes c))

abbrev pub is_empty : Chunk → Bool
is_empty c = not (is_filled c)

abbrev pub AreFilled : List Chunk → Type 0
AreFilled cs = All (λ c. 0 < length (chunk_bytes c)) cs

-- ## The first n bytes leave
-- what is left of the chunks
abbrev pub after : ℕ → List Chunk → List Chunk
after n [] = []
after n (c ∷ cs) =
    if nat_le (length (chunk_bytes c)) n then after (n - length (chunk_bytes c)) cs else skip n c ∷ cs

-- the buffers of the parts all of whose bytes have left; a part that is cut keeps its buffer
abbrev pub gone : ℕ → List Chunk → List Buffer
gone n [] = []
gone n (c ∷ cs) =
    if nat_le (length (chunk_bytes c)) n
    then option_to_list (chunk_buffer c) ++ gone (n - length (chunk_bytes c)) cs
    else []

-- ## The bytes between two places, counted from the first byte of the queue
abbrev pub range_of : ℕ → ℕ → List Chunk → List ℕ
range_of from to cs = take (to - from) (drop from (chunks_bytes cs))
