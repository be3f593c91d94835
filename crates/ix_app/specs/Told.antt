-- What an application was told of a connection: whether it is up, on its own asking, and the bytes of the peer.
use Rattle.std.specs.Prelude.{ℕ, Bool, true, false, List, [], ◌∷◌, ◌++◌}
use Rattle.ix_mbuf.specs.Buffers.{Buffer, piece_bytes}
use Rattle.ix_call.specs.declared.chunk.Chunk.{Chunk}
use Rattle.ix_call.specs.declared.chunk.Chunk.TheVariants as chunks
use Rattle.ix_app.specs.declared.event.AppEvent.{AppEvent}
use Rattle.ix_app.specs.declared.event.AppEvent.TheVariants.{Up, Recv, PeerEnd, Sent, Dead}

abbrev pub up_after : AppEvent → Bool → Bool
up_after Up up = true
up_after (Recv part) up = up
up_after PeerEnd up = up
up_after (Sent bytes) up = up
up_after (Dead reason) up = up

-- the bytes that an event tells
abbrev pub bytes_in : AppEvent → List ℕ
bytes_in Up = []
bytes_in (Recv part) = piece_bytes part
bytes_in PeerEnd = []
bytes_in (Sent bytes) = []
bytes_in (Dead reason) = []

abbrev pub told_after : AppEvent → List ℕ → List ℕ
told_after Up told = told
told_after (Recv part) told = told ++ piece_bytes part
told_after PeerEnd told = told
told_after (Sent bytes) told = told
told_after (Dead reason) told = told

abbrev pub is_end : AppEvent → Bool
is_end Up = false
is_end (Recv part) = false
is_end PeerEnd = true
is_end (Sent bytes) = false
is_end (Dead reason) = false

-- the buffer of a told part
abbrev pub buffers_in : AppEvent → List Buffer
buffers_in Up = []
buffers_in (Recv part) = part.buf ∷ []
buffers_in PeerEnd = []
buffers_in (Sent bytes) = []
buffers_in (Dead reason) = []

-- the told part as a chunk to send
abbrev pub parts_in : AppEvent → List Chunk
parts_in Up = []
parts_in (Recv part) = chunks.Part part ∷ []
parts_in PeerEnd = []
parts_in (Sent bytes) = []
parts_in (Dead reason) = []
