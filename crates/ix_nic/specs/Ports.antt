-- The card's side of one receive ring: what was put on the ring and stands behind it, the buffers that were posted, and the counts.
use Rattle.std.specs.Prelude.{◌≡◌, ◌≤◌, ◌<◌, ◌+◌, ◌-◌, ◌^◌, ◌++◌, ◌⊎◌, ℕ, min, List, [], ◌∷◌, length, Bool, true, false, Option, Some, None, option_to_list}
use mathlib.Core.List.{IsPrefix}
use Rattle.ix_mbuf.specs.Buffers.{Buffer}
use Rattle.ix_ring.specs.Views.{PutView, TakeView}
use Rattle.ix_ring.specs.Ends.{SamePutEnd, SameTakeEnd, put_list, spare, taken, known}
use Rattle.ix_stack.specs.declared.item.Item.{Item}
use Rattle.ix_stack.specs.declared.item.Item.TheVariants.{End}

pub record PortView : Type 0 where
  -- the end that puts on the receive ring
  pub ring : PutView Item
  -- what stands behind it
  pub behind : List Item
  -- the end that takes from the posting ring
  pub posts : TakeView Buffer
  -- the buffer that is kept for the next frame
  pub kept : Option Buffer
  -- the items and frames since the last settle, and the buffers that were posted at it and not handed out since
  pub items : ℕ
  pub frames : ℕ
  pub posted : ℕ
  -- whether an end was put since the last settle
  pub ended : Bool

-- what was put on a ring, and then what stands behind it
abbrev pub whole : PortView → List Item
whole p = p.ring.put ++ p.behind

-- a count stands still at the end of its type
abbrev pub capped : ℕ → ℕ
capped n = min n (2 ^ 32 - 1)

abbrev pub one_more : ℕ → ℕ
one_more n = capped (n + 1)

-- how many buffers are kept
abbrev pub kept_count : Option Buffer → ℕ
kept_count None = 0
kept_count (Some b) = 1

-- the buffers that the card knows to be posted
abbrev pub posted_now : PortView → ℕ
posted_now p = capped (length (known p.posts) + kept_count p.kept)

-- the items after one more: an end does not count
abbrev pub counted : Option Item → ℕ → ℕ
counted None n = n
counted (Some End) n = n
counted (Some x) n = one_more n

-- whether an end was put, after one more item
abbrev pub ended_by : Option Item → Bool → Bool
ended_by (Some End) b = true
ended_by o b = b

-- ## What calls do with a ring
-- The end of the same ring, on which items were put.
pub record PutsOn (old new : PutView Item) : Type 0 where
  pub same : SamePutEnd old new
  pub items : List Item
  pub put : put_list new ≡ put_list old ++ items

-- Nothing or one item is put behind all that is there, and the ring is given what stands behind it, as far as it takes that.
pub record Puts (item : Option Item) (old new : PortView) : Type 0 where
  pub ring : PutsOn old.ring new.ring
  pub whole : whole new ≡ whole old ++ option_to_list item
  pub stops : (new.behind ≡ []) ⊎ (spare new.ring ≡ 0)
  pub rest : new ≡ record old { ring = new.ring; behind = new.behind; items = counted item old.items; ended = ended_by item old.ended }

-- All that stands behind a ring was put that the ring took.
abbrev pub IsRetried : PortView → Type 0
IsRetried p = (p.behind ≡ []) ⊎ (spare p.ring ≡ 0)

-- A buffer is taken: the one that is kept, or the next of the posting ring.
abbrev pub TakesNext : Option Buffer → TakeView Buffer → Buffer → TakeView Buffer → Type 0
TakesNext (Some kept) old buf new = (buf ≡ kept) × (new ≡ old)
TakesNext None old buf new = SameTakeEnd old new × (taken new ≡ taken old ++ buf ∷ []) × IsPrefix (known old) (buf ∷ known new)

-- ## What a ring keeps
-- the places behind it; and while there was no end since the last settle, the items since then, with the room that is left, are 512 at least
pub record HasRoom (capacity behind spare items : ℕ) (ended : Bool) : Type 0 where
  pub reserved : 1024 ≤ capacity
  pub few : behind ≤ 1024
  pub free : ended ≡ false → items < 2 ^ 32 - 1 → 512 + behind ≤ spare + items

-- the buffers of the last settle were used for frames, or are there still
pub record IsBacked (known kept frames posted : ℕ) : Type 0 where
  pub backed : posted ≤ frames + (known + kept)
  pub fits : posted < 2 ^ 32
