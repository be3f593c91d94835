-- What the card does with a wire list, entry by entry and settle by settle, and the lines that tell of it. docs/FITS.md, point 1.
use Rattle.std.specs.Prelude.{◌≡◌, ◌<◌, ◌+◌, ◌==◌, if◌then◌else◌, ℕ, suc, List, [], ◌∷◌, length, slice_get, slice_index_or, Option, Some, None}
use Rattle.ix_base.specs.declared.id.CoreId.{CoreId}
use Rattle.ix_base.specs.declared.id.GroupId.{GroupId}
use Rattle.ix_lines.specs.declared.types.EntryLine.{EntryLine}
use Rattle.ix_lines.specs.declared.types.EntryLine.TheVariants as lines
use Rattle.ix_lines.specs.declared.types.Fate.{Fate}
use Rattle.ix_lines.specs.declared.types.Fate.TheVariants as fates
use Rattle.ix_lines.specs.declared.types.RingLine.{RingLine}
use Rattle.ix_lines.specs.declared.types.SettleLine.{SettleLine}
use Rattle.ix_nic.specs.declared.offer.Offer.{Offer}
use Rattle.ix_nic.specs.declared.offer.Offer.TheVariants.{TooLong, RingFull, NoBuffer, Accepted}
use Rattle.ix_nic.specs.Cards.{CardView, Offered, core_at}
use Rattle.ix_nic.specs.Ports.{PortView, Puts}
use Rattle.ix_nic.specs.Words.{CarriesOut}
use Rattle.ix_order.specs.Wire.{move}
use Rattle.ix_playdef.specs.Clock.{clock_after}
use Rattle.ix_reta.specs.Table.{tenure_of}
use Rattle.ix_stack.specs.declared.item.Item.{Item}
use Rattle.ix_stack.specs.declared.item.Item.TheVariants as items
use Rattle.ix_steer.specs.Steering.{group_of_frame}
use Rattle.ix_wire.specs.declared.entry.Entry.{Entry}
use Rattle.ix_wire.specs.declared.entry.Entry.TheVariants as wire
use Rattle.ix_fits.specs.Card.{settles_after}

-- ## Between entries
-- what is counted of a ring stays
pub record CountsStay (old new : PortView) : Type 0 where
  pub items : new.items ≡ old.items
  pub frames : new.frames ≡ old.frames
  pub posted : new.posted ≡ old.posted

-- The table stays, and what is counted of each ring: so it is where the card puts what stands behind its rings, puts an end on each of them,
-- or meets the cores.
pub record CardStays (old new : CardView) : Type 0 where
  pub table : new.table ≡ old.table
  pub count : length new.ports ≡ length old.ports
  pub rings : (r : ℕ) (d : PortView) → r < length old.ports → CountsStay (slice_index_or old.ports r d) (slice_index_or new.ports r d)

-- ## Items
-- Each ring is given its item, if there is one, behind all that stands there.
pub record RingsGiven (item : ℕ → Option Item) (old new : List PortView) : Type 0 where
  pub count : length new ≡ length old
  pub rings : (r : ℕ) (d : PortView) → r < length old → Puts (item r) (slice_index_or old r d) (slice_index_or new r d)

-- a tag on the ring of this core
abbrev pub tag_item : GroupId → CoreId → ℕ → Option Item
tag_item group core r = if r == core.0 then Some (items.Tag group) else None

-- a cut on the ring of the core that a group leaves, and a start on the ring of the core to which it comes
abbrev pub turn_item : GroupId → CoreId → CoreId → ℕ → ℕ → Option Item
turn_item group from to tenure r = if r == from.0 then Some (items.Cut group to) else if r == to.0 then Some (items.Start group tenure) else None

-- ## Lines
-- what is told of a frame
abbrev pub fate_of : Offer → Fate
fate_of (TooLong len) = fates.TooLong len
fate_of (RingFull ring group items) = fates.RingFull items
fate_of (NoBuffer ring group frames) = fates.NoBuffer frames
fate_of (Accepted ring group buf) = fates.Buf buf

-- the line of a frame of this record that came at this time, where the card answered so: its group, and the core of that
abbrev pub frame_line : ℕ → ℕ → CardView → List ℕ → Offer → EntryLine
frame_line rec clock card bytes answer =
    lines.Frame rec clock (record { 0 = group_of_frame bytes }) (core_at card.table (group_of_frame bytes)) (fate_of answer)

-- ## One entry
-- a frame is offered
pub record FrameCarried (frames : List (List ℕ)) (clock w rec : ℕ) (line : EntryLine) (old new : CardView) : Type 0 where
  pub bytes : List ℕ
  pub answer : Offer
  pub found : slice_get frames rec ≡ Some bytes
  pub offered : Offered (record { 0 = w }) bytes answer old new
  pub told : line ≡ frame_line rec clock old bytes answer

-- a time is put on each ring
pub record TimeCarried (w t : ℕ) (line : EntryLine) (old new : CardView) : Type 0 where
  pub table : new.table ≡ old.table
  pub rings : RingsGiven (λ r. Some (items.Time (record { 0 = w }) t)) old.ports new.ports
  pub told : line ≡ lines.Time t

-- a tag is put on the ring of its group's core
pub record TagCarried (group : GroupId) (line : EntryLine) (old new : CardView) : Type 0 where
  pub table : new.table ≡ old.table
  pub rings : RingsGiven (tag_item group (core_at old.table group.0)) old.ports new.ports
  pub told : line ≡ lines.Tag group

-- a group moves to another core
pub record MoveCarried (w : ℕ) (group : GroupId) (to : CoreId) (line : EntryLine) (old new : CardView) : Type 0 where
  pub core : to.0 < length old.ports
  pub rings : RingsGiven (turn_item group (core_at old.table group.0) to (tenure_of old.table.turns group.0 + 1)) old.ports new.ports
  pub entry : CarriesOut (move group.0 to.0) w old new
  pub told : line ≡ lines.Move group to

-- A settle tells of each ring the buffers that are posted behind it, and the frames and items that were counted before it. The counts begin
-- anew.
pub record IsSettled (line : SettleLine) (old new : CardView) : Type 0 where
  pub table : new.table ≡ old.table
  pub count : length new.ports ≡ length old.ports
  pub lines : length line.rings ≡ length old.ports
  pub rings : (r : ℕ) (d : PortView) (l : RingLine) → r < length old.ports → slice_index_or line.rings r l
      ≡ record { posted = (slice_index_or new.ports r d).posted; frames = (slice_index_or old.ports r d).frames; items = (slice_index_or old.ports r d).items }
  pub no_items : (r : ℕ) (d : PortView) → r < length old.ports → (slice_index_or new.ports r d).items ≡ 0
  pub no_frames : (r : ℕ) (d : PortView) → r < length old.ports → (slice_index_or new.ports r d).frames ≡ 0

pub record SettleCarried (line : EntryLine) (settles : List SettleLine) (old new : CardView) : Type 0 where
  pub settle : SettleLine
  pub later : List SettleLine
  pub next : settles ≡ settle ∷ later
  pub settled : IsSettled settle old new
  pub told : line ≡ lines.Settle

-- The entry with number w is carried out at this time, and told by this line; of the settles that are still to come a settle has the first.
abbrev pub Carried : List (List ℕ) → ℕ → ℕ → Entry → EntryLine → List SettleLine → CardView → CardView → Type 0
Carried frames clock w (wire.Frame rec) line settles old new = FrameCarried frames clock w rec line old new
Carried frames clock w (wire.Time t) line settles old new = TimeCarried w t line old new
Carried frames clock w (wire.Tag group) line settles old new = TagCarried group line old new
Carried frames clock w (wire.Move group to) line settles old new = MoveCarried w group to line old new
Carried frames clock w wire.Settle line settles old new = SettleCarried line settles old new

-- ## All entries
-- The entries are carried out one after the other, the first having the number w, from this clock on; nothing that counts happens between them.
abbrev pub Course : List (List ℕ) → ℕ → ℕ → List Entry → List EntryLine → List SettleLine → CardView → CardView → Type 0
Course frames clock w [] [] settles old new = (settles ≡ []) × CardStays old new
Course frames clock w [] (y ∷ ys) settles old new = ⊥
Course frames clock w (x ∷ xs) [] settles old new = ⊥
Course frames clock w (x ∷ xs) (y ∷ ys) settles old new =
    (before : CardView) × (after : CardView) × (CardStays old before × Carried frames (clock_after clock x) w x y settles before after
    × Course frames (clock_after clock x) (suc w) xs ys (settles_after y settles) after new)
