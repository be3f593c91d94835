-- What an application hands on.
use Rattle.std.specs.Prelude.{◌≡◌, ◌≤◌, ◌<◌, ◌^◌, ℕ, ◌+◌, Bool, true, nat_lt, ◌&&◌, ◌||◌, ◌==◌, if◌then◌else◌, List, [], ◌∷◌, ◌++◌, length, drop, min}
use Rattle.std.specs.List.{AllByRecursion}
use Rattle.std.specs.Option.{option_to_list}
use Rattle.ix_mbuf.specs.Buffers.{Buffer}
use Rattle.ix_call.specs.declared.chunk.Chunk.{Chunk}
use Rattle.ix_call.specs.Chunks.{chunk_bytes, chunks_bytes, chunk_buffer, chunks_buffers}
use Rattle.ix_mbuf.specs.Buffers.{piece_bytes}
use Rattle.ix_app.specs.declared.event.AppEvent.{AppEvent}
use Rattle.ix_app.specs.declared.event.AppEvent.TheVariants.{Up, Recv, PeerEnd, Sent, Dead}
use Rattle.ix_app.specs.Told.{bytes_in, is_end, buffers_in, parts_in}

-- the chunks that are written, the buffers that are done with, how many told bytes are done with, and whether it is asked to close
pub record HandedOn : Type 0 where
  pub chunks : List Chunk
  pub freed : List Buffer
  pub done : ℕ
  pub closing : Bool

-- as many bytes as one call gives back
abbrev pub bytes_most : ℕ
bytes_most = 4294967295

-- The chunk has a byte.
abbrev pub IsFilled : Chunk → Type 0
IsFilled chunk = 0 < length (chunk_bytes chunk)

abbrev pub AllFilled : List Chunk → Type 0
AllFilled chunks = AllByRecursion IsFilled chunks

-- so many bytes stand in the chunks, and none is without bytes
pub record AreCounted (bytes : ℕ) (chunks : List Chunk) : Type 0 where
  pub count : bytes ≡ length (chunks_bytes chunks)
  pub bound : bytes ≤ 2 ^ 63
  pub filled : AllFilled chunks

-- a chunk without bytes is let go
abbrev pub let_go : Chunk → HandedOn → HandedOn
let_go chunk o = record o { freed = o.freed ++ option_to_list (chunk_buffer chunk) }

abbrev pub written : Chunk → HandedOn → HandedOn
written chunk o = record o { chunks = o.chunks ++ chunk ∷ [] }

abbrev pub is_blank : Chunk → Bool
is_blank chunk = length (chunk_bytes chunk) == 0

unfoldable pub sent : Chunk → HandedOn → HandedOn
sent chunk o = if is_blank chunk then let_go chunk o else written chunk o

-- ## What a ruled application hands on at an event
-- Parts with bytes are sent whole where it forwards them; every other told part is released.
abbrev pub goes_on : Bool → AppEvent → Bool
goes_on forwards event = forwards && nat_lt 0 (length (bytes_in event))

-- It is done with the bytes of a told part at once.
abbrev pub done_after : AppEvent → ℕ → ℕ
done_after Up done = done
done_after (Recv part) done = min (done + length (piece_bytes part)) bytes_most
done_after PeerEnd done = done
done_after (Sent bytes) done = done
done_after (Dead reason) done = done

-- before, after: its answer before the event and after it
pub record Answered (forwards : Bool) (event : AppEvent) (before after : List ℕ) (old new : HandedOn) : Type 0 where
  -- exactly what the answer grew by
  pub bytes : chunks_bytes new.chunks ≡ chunks_bytes old.chunks ++ drop (length before) after
  -- the buffer of a told part stands in what is written, or is released
  pub kept : chunks_buffers new.chunks ≡ chunks_buffers old.chunks ++ (if goes_on forwards event then buffers_in event else [])
  pub freed : new.freed ≡ old.freed ++ (if goes_on forwards event then [] else buffers_in event)
  -- a part that goes on is written whole
  pub whole : goes_on forwards event ≡ true → new.chunks ≡ old.chunks ++ parts_in event
  pub done : new.done ≡ done_after event old.done
  pub closing : new.closing ≡ (old.closing || is_end event)
