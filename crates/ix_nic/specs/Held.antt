-- The buffers that the card took. A weight is one of ids, since a buffer that is filled again keeps its id.
use Rattle.std.specs.Prelude.{◌≡◌, ◌<◌, ◌+◌, ℕ, List, length, slice_index_or}
use Rattle.ix_base.specs.declared.id.BufId.{BufId}
use Rattle.ix_mbuf.specs.Buffers.{Buffer, buffers_weight}
use Rattle.ix_mbuf.specs.Owners.{maybe}
use Rattle.ix_ring.specs.Ends.{taken}
use Rattle.ix_stack.specs.Items.{items_weight}
use Rattle.ix_nic.specs.Ports.{PortView, whole}

-- what was taken from the posting ring
abbrev pub taken_weight : (BufId → ℕ) → PortView → ℕ
taken_weight f p = buffers_weight (λ n. f n.id) (taken p.posts)

-- what is in frames that were put on the receive ring or stand behind it, and what is kept
abbrev pub held_weight : (BufId → ℕ) → PortView → ℕ
held_weight f p = items_weight (λ n. f n.id) (whole p) + maybe (λ (b : Buffer). f b.name.id) p.kept

-- What is taken more is held more.
abbrev pub Conserves : (BufId → ℕ) → PortView → PortView → Type 0
Conserves f old new = held_weight f new + taken_weight f old ≡ held_weight f old + taken_weight f new

-- Each buffer that is taken from a posting ring is in a frame of that core's receive ring or is kept for one, and no other buffer moves.
pub record KeepsBuffers (old new : List PortView) : Type 0 where
  pub same : (f : BufId → ℕ) (r : ℕ) (d : PortView) → r < length old → Conserves f (slice_index_or old r d) (slice_index_or new r d)
