-- What the card of a play is given, entry by entry, how far that has come, and what the card has to be like for it.
use Rattle.std.specs.Prelude.{◌≡◌, ◌<◌, ◌≤◌, ℕ, Bool, true, false, List, [], ◌∷◌, Some, None, length, drop, slice_get, slice_index_or, count_by}
use Rattle.std.specs.List.{AllByRecursion}
use Rattle.ix_base.specs.declared.id.CoreId.{CoreId}
use Rattle.ix_lines.specs.declared.types.EntryLine.{EntryLine}
use Rattle.ix_nic.specs.Cards.{AreOpen, CardView, all_waiting, core_at}
use Rattle.ix_nic.specs.Ports.{PortView}
use Rattle.ix_wire.specs.declared.entry.Entry.{Entry}
use Rattle.ix_wire.specs.declared.entry.Entry.TheVariants as wire
use Rattle.ix_wire.specs.Entries.{EachAllowed, is_control, is_elsewhere, is_within, moved_by, since_settle}

pub record ReplayView : Type 0 where
  -- the wire list, and the frames of the records that it names
  pub entries : List Entry
  pub frames : List (List ℕ)
  -- what a trace says of each entry that was carried out, in order
  pub lines : List EntryLine
  -- the time that the last of these that sets the clock gave, 0 before it
  pub clock : ℕ
  -- whether the epoch is over: its end was put on the rings, or none was begun
  pub ended : Bool
  -- how many items stood behind the rings when that was last looked at
  pub waiting : ℕ

-- the entries that are left
abbrev pub left_of : ReplayView → List Entry
left_of r = drop (length r.lines) r.entries

-- this entry is to be carried out next, in an epoch that is not over
pub record NextIs (e : Entry) (r : ReplayView) : Type 0 where
  pub not_ended : r.ended ≡ false
  pub entry : slice_get r.entries (length r.lines) ≡ Some e

-- the epoch is over, or no entry is left
abbrev pub NoneIsNext : ReplayView → Type 0
NoneIsNext r = r.ended ≡ false → slice_get r.entries (length r.lines) ≡ None

abbrev pub is_move : Entry → Bool
is_move (wire.Frame rec) = false
is_move (wire.Tag group) = false
is_move (wire.Move group to) = true
is_move (wire.Time t) = false
is_move wire.Settle = false

abbrev pub is_settle : Entry → Bool
is_settle (wire.Frame rec) = false
is_settle (wire.Tag group) = false
is_settle (wire.Move group to) = false
is_settle (wire.Time t) = false
is_settle wire.Settle = true

-- the record, the flow group and the core that an entry names are there
abbrev pub IsThere : ℕ → List (List ℕ) → Entry → Type 0
IsThere cores frames (wire.Frame rec) = rec < length frames
IsThere cores frames (wire.Tag group) = group.0 < 512
IsThere cores frames (wire.Move group to) = (group.0 < 512) × (to.0 < cores)
IsThere cores frames (wire.Time t) = Unit {0}
IsThere cores frames wire.Settle = Unit {0}

-- whether the last of these entries, if there is one, is a settle
abbrev pub closes : List Entry → Bool
closes [] = true
closes (e ∷ []) = is_settle e
closes (e ∷ f ∷ es) = closes (f ∷ es)

-- What is left can be carried out, from this table on: each entry names what is there, each move goes to another core than the one that its
-- group is on by then, and the table has a turn for it; at most 1,000 tags, moves and times stand between two settles, of which some were
-- carried out since the last one; and the last entry is a settle. These are rules of a wire list (docs/SCRIPT.md).
pub record CanFollow (card : CardView) (frames : List (List ℕ)) (es : List Entry) : Type 0 where
  pub there : AllByRecursion (IsThere (length card.ports) frames) es
  -- the core of each flow group
  pub at : List CoreId
  pub table : (g : ℕ) → g < 512 → slice_get at g ≡ Some (core_at card.table g)
  pub elsewhere : EachAllowed is_elsewhere moved_by at es
  pub turns : count_by is_move es ≤ card.table.room
  pub closed : closes es ≡ true

-- An epoch is under way: its settle is still to come, no end was put, and no more stands behind a ring than the tags, moves and times that
-- were carried out since the last settle.
pub record IsUnderWay (card : CardView) (es : List Entry) : Type 0 where
  pub more : 0 < length es
  pub are_open : AreOpen card.ports
  pub controls : ℕ
  pub most : controls ≤ 1000
  pub behind : (r : ℕ) (d : PortView) → r < length card.ports → length (slice_index_or card.ports r d).behind ≤ controls
  pub few : EachAllowed (is_within is_control 1000) (since_settle is_control) controls es

-- The epoch is over: what stands behind the rings was looked at, and the next epoch has few enough tags, moves and times.
pub record IsOver (card : CardView) (r : ReplayView) : Type 0 where
  pub waits : r.waiting ≡ all_waiting card.ports
  pub few : EachAllowed (is_within is_control 1000) (since_settle is_control) 0 (left_of r)

-- The card can be fed from here on.
pub record CanFeed (card : CardView) (r : ReplayView) : Type 0 where
  pub follow : CanFollow card r.frames (left_of r)
  pub under_way : r.ended ≡ false → IsUnderWay card (left_of r)
  pub over : r.ended ≡ true → IsOver card r

-- a card with what it is fed
pub record FeedView : Type 0 where
  pub card : CardView
  pub replay : ReplayView

abbrev pub feed_view : CardView → ReplayView → FeedView
feed_view card r = record { card = card; replay = r }
