-- What carrying out one entry does, and many of them, one after the other.
use Rattle.std.specs.Prelude.{◌≡◌, ◌<◌, ◌+◌, ◌-◌, ◌^◌, ℕ, suc, ◌==◌, if◌then◌else◌, List, [], ◌∷◌, ◌++◌, Option, Some, None, length, slice_get, slice_index_or}
use mathlib.Core.List.{IsPrefix}
use Rattle.ix_base.specs.declared.id.CoreId.{CoreId}
use Rattle.ix_base.specs.declared.id.GroupId.{GroupId}
use Rattle.ix_lines.specs.declared.types.EntryLine.{EntryLine}
use Rattle.ix_lines.specs.declared.types.EntryLine.TheVariants as told
use Rattle.ix_lines.specs.declared.types.Fate.{Fate}
use Rattle.ix_lines.specs.declared.types.Fate.TheVariants as fates
use Rattle.ix_nic.specs.declared.offer.Offer.{Offer}
use Rattle.ix_nic.specs.declared.offer.Offer.TheVariants as offers
use Rattle.ix_nic.specs.Cards.{CardView, Offered, core_at}
use Rattle.ix_nic.specs.Ports.{PortView, Puts, PutsOn, whole}
use Rattle.ix_nic.specs.Words.{CarriesOut}
use Rattle.ix_order.specs.Wire.{Verdict, accepted, dropped, frame, time, tag, move, settle}
use Rattle.ix_order.specs.Wire as order
use Rattle.ix_ring.specs.Ends.{SameTakeEnd, known, taken}
use Rattle.ix_ring.specs.Views.{TakeView}
use Rattle.ix_mbuf.specs.Buffers.{Buffer}
use Rattle.ix_reta.specs.Table.{Table, tenure_of}
use Rattle.ix_stack.specs.declared.item.Item.{Item}
use Rattle.ix_stack.specs.declared.item.Item.TheVariants as items
use Rattle.ix_steer.specs.Steering.{group_of_frame}
use Rattle.ix_wire.specs.declared.entry.Entry.{Entry}
use Rattle.ix_wire.specs.declared.entry.Entry.TheVariants as wire
use Rattle.ix_wire.specs.Entries.{clock_by}

-- ## The lines
-- what a trace says of a frame that was offered
abbrev pub fate_of : Offer → Fate
fate_of (offers.TooLong len) = fates.TooLong len
fate_of (offers.RingFull ring group items) = fates.RingFull items
fate_of (offers.NoBuffer ring group frames) = fates.NoBuffer frames
fate_of (offers.Accepted ring group buf) = fates.Buf buf

-- the number of bytes of a frame that is too long is one that a trace can tell
abbrev pub CanBeTold : Offer → Type 0
CanBeTold (offers.TooLong len) = len < 2 ^ 32
CanBeTold (offers.RingFull ring group items) = Unit {0}
CanBeTold (offers.NoBuffer ring group frames) = Unit {0}
CanBeTold (offers.Accepted ring group buf) = Unit {0}

-- a line in the words of the law on pieces
abbrev pub verdict_of : CoreId → Fate → Verdict
verdict_of ring (fates.Buf buf) = accepted ring.0
verdict_of ring (fates.RingFull items) = dropped
verdict_of ring (fates.NoBuffer frames) = dropped
verdict_of ring (fates.TooLong len) = dropped

abbrev pub entry_of : EntryLine → order.Entry
entry_of (told.Frame rec at group ring fate) = frame group.0 (verdict_of ring fate)
entry_of (told.Time t) = time
entry_of (told.Tag group) = tag group.0
entry_of (told.Move group to) = move group.0 to.0
entry_of told.Settle = settle

-- ## One entry
-- A frame is offered, and its line tells the clock, its flow group, the core of that, and what became of it.
pub record FrameCall (frames : List (List ℕ)) (w clock rec : ℕ) (line : EntryLine) (old new : CardView) : Type 0 where
  pub bytes : List ℕ
  pub record_is : slice_get frames rec ≡ Some bytes
  pub answer : Offer
  pub offered : Offered (record { 0 = w }) bytes answer old new
  pub group : GroupId
  pub group_is : group.0 ≡ group_of_frame bytes
  pub line_is : line ≡ told.Frame rec clock group (core_at old.table (group_of_frame bytes)) (fate_of answer)

-- the item of a control entry for each ring: a tag for that of its group's core
abbrev pub tag_on : GroupId → CoreId → ℕ → Option Item
tag_on group core r = if r == core.0 then Some (items.Tag group) else None

-- a cut for the ring that a group leaves, and a start for the one that it comes to
abbrev pub turn_on : GroupId → CoreId → CoreId → ℕ → ℕ → Option Item
turn_on group from to tenure r = if r == from.0 then Some (items.Cut group to) else if r == to.0 then Some (items.Start group tenure) else None

-- a time and an end for each ring
abbrev pub time_on : ℕ → ℕ → ℕ → Option Item
time_on w t r = Some (items.Time (record { 0 = w }) t)

abbrev pub end_on : ℕ → Option Item
end_on r = Some items.End

-- Each ring is given its item, if there is one.
pub record AllPut (item : ℕ → Option Item) (old new : CardView) : Type 0 where
  pub count : length new.ports ≡ length old.ports
  pub rings : (r : ℕ) (d : PortView) → r < length old.ports → Puts (item r) (slice_index_or old.ports r d) (slice_index_or new.ports r d)

-- the table after one more turn
abbrev pub with_turn : GroupId → CoreId → Table → Table
with_turn group to t = record t { turns = t.turns ++ (group, to) ∷ []; room = t.room - 1 }

-- A control entry: its line, the table behind it, and what is put on the rings.
pub record ControlCall (line_of : EntryLine) (table_of : Table) (item : ℕ → Option Item) (line : EntryLine) (old new : CardView) : Type 0 where
  pub line_is : line ≡ line_of
  pub table : new.table ≡ table_of
  pub put : AllPut item old new

-- The call that carries out the entry in place w, and its line.
abbrev pub Calls : List (List ℕ) → ℕ → ℕ → Entry → EntryLine → CardView → CardView → Type 0
Calls frames w clock (wire.Frame rec) line old new = FrameCall frames w clock rec line old new
Calls frames w clock (wire.Tag group) line old new = ControlCall (told.Tag group) old.table (tag_on group (core_at old.table group.0)) line old new
Calls frames w clock (wire.Move group to) line old new =
    ControlCall (told.Move group to) (with_turn group to old.table)
    (turn_on group (core_at old.table group.0) to (tenure_of old.table.turns group.0 + 1)) line old new
Calls frames w clock (wire.Time t) line old new = ControlCall (told.Time t) old.table (time_on w t) line old new
Calls frames w clock wire.Settle line old new = ControlCall told.Settle old.table end_on line old new

-- An entry is carried out by its call, and each ring is given what the law on pieces says.
pub record CarriedBy (frames : List (List ℕ)) (w clock : ℕ) (e : Entry) (line : EntryLine) (old new : CardView) : Type 0 where
  pub call : Calls frames w clock e line old new
  pub entry : CarriesOut (entry_of line) w old new

-- ## No entry
-- The posting ring at a meeting, where the card learns of more buffers on it; none of them was taken.
pub record PostsStay (old new : TakeView Buffer) : Type 0 where
  pub same : SameTakeEnd old new
  pub took : taken new ≡ taken old
  pub more : IsPrefix (known old) (known new)

-- Some of what stood behind a ring was put on it, in order, or the card learned at a meeting what stands in its rings.
pub record PortStays (p q : PortView) : Type 0 where
  pub ring : PutsOn p.ring q.ring
  pub whole : whole q ≡ whole p
  pub posts : PostsStay p.posts q.posts
  pub rest : q ≡ record p { ring = q.ring; behind = q.behind; posts = q.posts }

pub record CardStays (old new : CardView) : Type 0 where
  pub table : new.table ≡ old.table
  pub count : length new.ports ≡ length old.ports
  pub ports : (r : ℕ) (d : PortView) → r < length old.ports → PortStays (slice_index_or old.ports r d) (slice_index_or new.ports r d)

-- ## Many entries
-- one entry is carried out on a card that may have put what stood behind its rings before
pub record Follows (frames : List (List ℕ)) (w clock : ℕ) (e : Entry) (line : EntryLine) (old new : CardView) : Type 0 where
  pub before : CardView
  pub stays : CardStays old before
  pub carried : CarriedBy frames w clock e line before new

-- The entries are carried out in order, each with its line, the first being the w-th.
abbrev pub Feeds : List (List ℕ) → ℕ → ℕ → List Entry → List EntryLine → CardView → CardView → Type 0
Feeds frames w clock [] [] old new = CardStays old new
Feeds frames w clock [] (l ∷ ls) old new = ⊥
Feeds frames w clock (e ∷ es) [] old new = ⊥
Feeds frames w clock (e ∷ es) (l ∷ ls) old new =
    (mid : CardView) × (Follows frames w clock e l old mid × Feeds frames (suc w) (clock_by clock e) es ls mid new)
