-- What contracts see of a buffer and of a part of one, and what these weigh.
use Rattle.std.specs.Prelude.{◌+◌, ◌-◌, ◌%◌, ◌^◌, ℕ, List, take, drop, map, sum_by}
use Rattle.ix_mbuf.specs.declared.name.Name.{Name}

-- a buffer: its name and the bytes of its frame
pub record Buffer : Type 0 where
  pub name : Name
  pub bytes : List ℕ

-- the name after one more use: uses are counted modulo 2^32
abbrev pub next_use : Name → Name
next_use n = record { id = n.id; uses = (n.uses + 1) % (2 ^ 32) }

-- a part of a buffer: its bytes from the place `from` up to the place `to`
pub record Piece : Type 0 where
  pub buf : Buffer
  pub from : ℕ
  pub to : ℕ

abbrev pub piece_bytes : Piece → List ℕ
piece_bytes p = take (p.to - p.from) (drop p.from p.buf.bytes)

abbrev pub names_of : List Buffer → List Name
names_of bufs = map (λ b. b.name) bufs

-- the weights of these buffers, added up
abbrev pub buffers_weight : (Name → ℕ) → List Buffer → ℕ
buffers_weight f bufs = sum_by (λ b. f b.name) bufs

-- the weights of the buffers of these parts, added up
abbrev pub pieces_weight : (Name → ℕ) → List Piece → ℕ
pieces_weight f parts = sum_by (λ p. f p.buf.name) parts
