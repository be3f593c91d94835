-- What follows from turns: what stands on the rings then, how it was counted, and which buffers were used.
use Rattle.std.specs.Prelude.{◌≡◌, ◌<◌, ◌≤◌, ◌+◌, ◌^◌, ◌++◌, ◌==◌, if◌then◌else◌, ℕ, Bool, true, false, List, [], ◌∷◌, Option, Some, None, length, map, count_by, slice_get, slice_index_or}
use Rattle.std.specs.List.{AllByRecursion}
use Rattle.ix_base.specs.declared.id.BufId.{BufId}
use Rattle.ix_lines.specs.declared.types.EntryLine.{EntryLine}
use Rattle.ix_lines.specs.declared.types.EntryLine.TheVariants as told
use Rattle.ix_lines.specs.declared.types.Fate.TheVariants as fates
use Rattle.ix_mbuf.specs.Buffers.{Buffer, buffers_weight, next_use}
use Rattle.ix_mbuf.specs.Owners.{maybe, same_id, times, weigh}
use Rattle.ix_mbuf.specs.declared.name.Name.{Name}
use Rattle.ix_nic.specs.Cards.{CardView, opened}
use Rattle.ix_nic.specs.declared.port.NicEnd.{NicEnd}
use Rattle.ix_nic.specs.Entries.{AreCarriedOut}
use Rattle.ix_nic.specs.Ports.{PortView, capped, whole}
use Rattle.ix_nic.specs.Words.{seats}
use Rattle.ix_order.specs.Wire.{put_on, work, clock, tagged, cut, start, ended}
use Rattle.ix_order.specs.Wire as order
use Rattle.ix_reta.specs.Table.{Table}
use Rattle.ix_ring.specs.Ends.{taken}
use Rattle.ix_stack.specs.declared.item.Item.{Item}
use Rattle.ix_stack.specs.declared.item.Item.TheVariants as items
use Rattle.ix_stack.specs.Items.{items_weight}
use Rattle.ix_wire.specs.declared.entry.Entry.{Entry}
use Rattle.ix_wire.specs.declared.entry.Entry.TheVariants as wire
use Rattle.ix_wire.specs.Entries.{IsWire, Terms}
use Rattle.ix_feed.specs.Feeding.{entry_of}
use Rattle.ix_feed.specs.Replays.{CanFeed, FeedView, ReplayView, is_move}
use Rattle.ix_feed.specs.Turns.{FeedBecame}

-- ## The rings
-- Each ring was given what the law on pieces says of the lines, and what that law asks of frames holds.
abbrev pub EntriesAreFed : Type 0
EntriesAreFed = (x y : FeedView) (b : FeedBecame x y) → AreCarriedOut (map entry_of b.told) (length x.replay.lines) x.card y.card

-- ## The items
-- A frame on ring r has the number of an entry, of those from a number on, whose line says that it was accepted there, for this flow group and into
-- this buffer; the buffer has the name of its entry, and holds the bytes of the entry's record.
pub record FrameIsTold (r : ℕ) (name : ℕ → Name) (from : ℕ) (z : ReplayView) (w group : ℕ) (buf : Buffer) : Type 0 where
  pub behind : from ≤ w
  pub rec : ℕ
  pub entry : slice_get z.entries w ≡ Some (wire.Frame rec)
  pub at : ℕ
  pub line : slice_get z.lines w ≡ Some (told.Frame rec at (record { 0 = group }) (record { 0 = r }) (fates.Buf buf.name.id))
  pub bytes : slice_get z.frames rec ≡ Some buf.bytes
  pub named : buf.name ≡ name w

-- A time has the number of an entry that sets the clock so.
abbrev pub IsTold : ℕ → (ℕ → Name) → ℕ → ReplayView → Item → Type 0
IsTold r name from z (items.Frame w group buf) = FrameIsTold r name from z w.0 group.0 buf
IsTold r name from z (items.Time w t) = (from ≤ w.0) × (slice_get z.entries w.0 ≡ Some (wire.Time t))
IsTold r name from z (items.Tag group) = Unit {0}
IsTold r name from z (items.Cut group to) = Unit {0}
IsTold r name from z (items.Start group tenure) = Unit {0}
IsTold r name from z items.End = Unit {0}

-- What was put on a ring and behind it is told by the lines.
pub record RingIsTold (r : ℕ) (name : ℕ → Name) (from : ℕ) (z : ReplayView) (p q : PortView) : Type 0 where
  pub items : List Item
  pub more : whole q ≡ whole p ++ items
  pub are_told : AllByRecursion (IsTold r name from z) items

-- So it is on all rings, with one naming of the frames by their numbers.
pub record RingsAreTold (x y : FeedView) : Type 0 where
  pub name : ℕ → Name
  pub rings : (r : ℕ) (d : PortView) → r < length x.card.ports
      → RingIsTold r name (length x.replay.lines) y.replay (slice_index_or x.card.ports r d) (slice_index_or y.card.ports r d)

abbrev pub ItemsAreTold : Type 0
ItemsAreTold = (x y : FeedView) → FeedBecame x y → RingsAreTold x y

-- ## The counts
-- an end does not count
abbrev pub is_counted : order.Item → Bool
is_counted (work g w) = true
is_counted (clock w) = true
is_counted (tagged g) = true
is_counted (cut g c) = true
is_counted (start g k) = true
is_counted ended = false

abbrev pub is_work : order.Item → Bool
is_work (work g w) = true
is_work (clock w) = false
is_work (tagged g) = false
is_work (cut g c) = false
is_work (start g k) = false
is_work ended = false

-- The items and the frames of a ring are counted on by what the lines put on it, and the buffers of the last settle stay.
pub record RingIsCounted (put : List order.Item) (p q : PortView) : Type 0 where
  pub items : q.items ≡ capped (p.items + count_by is_counted put)
  pub frames : q.frames ≡ capped (p.frames + count_by is_work put)
  pub posted : q.posted ≡ p.posted

abbrev pub CountsFollow : Type 0
CountsFollow =
    (x y : FeedView) (b : FeedBecame x y) (r : ℕ) (d : PortView) → r < length x.card.ports
    → (slice_index_or x.card.ports r d).items < 2 ^ 32 → (slice_index_or x.card.ports r d).frames < 2 ^ 32
    → RingIsCounted (put_on r (seats x.card.table) (length x.replay.lines) (map entry_of b.told)) (slice_index_or x.card.ports r d) (slice_index_or y.card.ports r d)

-- ## The buffers
-- the buffer of a frame that was accepted to ring r
abbrev pub used_by : ℕ → EntryLine → List BufId
used_by r (told.Frame rec at group ring (fates.Buf buf)) = if ring.0 == r then buf ∷ [] else []
used_by r (told.Frame rec at group ring (fates.RingFull n)) = []
used_by r (told.Frame rec at group ring (fates.NoBuffer n)) = []
used_by r (told.Frame rec at group ring (fates.TooLong n)) = []
used_by r (told.Time t) = []
used_by r (told.Tag group) = []
used_by r (told.Move group to) = []
used_by r told.Settle = []

abbrev pub used_on : ℕ → List EntryLine → List BufId
used_on r [] = []
used_on r (l ∷ ls) = used_by r l ++ used_on r ls

abbrev pub ids_of : List Buffer → List BufId
ids_of bufs = map (λ (b : Buffer). b.name.id) bufs

abbrev pub kept_id : Option Buffer → List BufId
kept_id None = []
kept_id (Some b) = b.name.id ∷ []

-- the weights of the buffers that are in frames on the ring and behind it, and kept for one
abbrev pub port_weight : (Name → ℕ) → PortView → ℕ
port_weight f p = items_weight f (whole p) + maybe (λ (b : Buffer). f b.name) p.kept

-- The buffers that were taken from the posting ring, with the one that was kept before, are those that were used for accepted frames, in order,
-- and the one that is kept. Each time that a buffer is filled its name becomes that of the next use, at most once for an entry; no other name
-- changes.
pub record RingUsed (used : List BufId) (entries : ℕ) (p q : PortView) : Type 0 where
  pub bufs : List Buffer
  pub took : taken q.posts ≡ taken p.posts ++ bufs
  pub in_order : kept_id p.kept ++ ids_of bufs ≡ used ++ kept_id q.kept
  -- the names that were filled; each buffer that was used is among them
  pub fills : List Name
  pub few : length fills ≤ entries
  pub among : (i : BufId) → count_by (same_id i) used ≤ times i fills
  pub weight : (f : Name → ℕ) → port_weight f q + weigh f fills ≡ (port_weight f p + buffers_weight f bufs) + weigh f (map next_use fills)

abbrev pub BuffersAreFilled : Type 0
BuffersAreFilled =
    (x y : FeedView) (b : FeedBecame x y) (r : ℕ) (d : PortView) → r < length x.card.ports
    → RingUsed (used_on r b.told) (length b.told) (slice_index_or x.card.ports r d) (slice_index_or y.card.ports r d)

-- ## From epoch to epoch
-- The card knows more of its rings, and nothing else of it changed.
pub record PortMet (p q : PortView) : Type 0 where
  pub behind : q.behind ≡ p.behind
  pub ended : q.ended ≡ p.ended

pub record CardMet (old new : CardView) : Type 0 where
  pub table : new.table ≡ old.table
  pub count : length new.ports ≡ length old.ports
  pub ports : (r : ℕ) (d : PortView) → r < length old.ports → PortMet (slice_index_or old.ports r d) (slice_index_or new.ports r d)

-- nothing stands behind a ring, and no end was put since the last settle
pub record PortIsClear (p : PortView) : Type 0 where
  pub none : p.behind ≡ []
  pub not_ended : p.ended ≡ false

pub record CardIsClear (card : CardView) : Type 0 where
  pub ports : (r : ℕ) (d : PortView) → r < length card.ports → PortIsClear (slice_index_or card.ports r d)

-- A card that was fed can be fed after a meeting with its cores; and after a settle, in the next epoch.
pub record CardsStayFed : Type 0 where
  pub meets : (x y : CardView) (r : ReplayView) → CanFeed x r → CardMet x y → CanFeed y r
  pub settles : (x y : CardView) (r : ReplayView) → CanFeed x r → r.ended ≡ true → y.table ≡ x.table → length y.ports ≡ length x.ports → CardIsClear y
      → length r.lines < length r.entries → CanFeed y (record r { ended = false })

-- The wire list of a script can be fed from the opening of a play on, to a card with so many cores, of which so many are live, whose table has no turn
-- yet and room for all of them.
abbrev pub WiresFeed : Type 0
WiresFeed =
    (x : Terms) (card : CardView) (r : ReplayView) → IsWire x r.entries → length x.own ≡ length r.frames → r.lines ≡ [] → x.cores ≡ length card.ports
    → card.table.live ≡ x.live → card.table.turns ≡ [] → count_by is_move r.entries ≤ card.table.room → CardIsClear card → CanFeed card (record r { ended = false })

pub record WiresCanBeFed : Type 0 where
  pub feeds : WiresFeed
  -- so it is with the card of an opening
  pub clear : (table : Table) (ends : List NicEnd) → CardIsClear (record { table = table; ports = map opened ends })
  -- the table needs no more turns than this
  pub turns : (x : Terms) (es : List Entry) → IsWire x es → count_by is_move es ≤ 16777216
