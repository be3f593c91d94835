-- The course of a play on the plain stacks, from settle to settle.
use Rattle.std.specs.Prelude.{◌≡◌, ◌<◌, ◌≤◌, ℕ, true, false, ◌==◌, if◌then◌else◌, List, [], ◌∷◌, ◌++◌, length, map, slice_index_or}
use Rattle.ix_base.specs.declared.id.WireNo.{WireNo}
use Rattle.ix_base.specs.declared.id.TheConstants.{FLOW_GROUPS}
use Rattle.ix_mbuf.specs.declared.name.Name.{Name}
use Rattle.ix_appdef.specs.declared.application.Application.{Application}
use Rattle.ix_groupdef.specs.declared.env.Env.{Env}
use Rattle.ix_desk.specs.Desks.{group_at}
use Rattle.ix_desk.specs.Groups.{at_home, empty}
use Rattle.ix_lines.specs.declared.types.EntryLine.{EntryLine}
use Rattle.ix_lines.specs.declared.types.EntryLine.TheVariants as lines
use Rattle.ix_lines.specs.declared.types.SettleLine.{SettleLine}
use Rattle.ix_nic.specs.Entries.{turned_by}
use Rattle.ix_nic.specs.Words.{seats}
use Rattle.ix_wire.specs.declared.entry.Entry.{Entry}
use Rattle.ix_wire.specs.declared.entry.Entry.TheVariants as wire
use Rattle.ix_wire.specs.Entries.{IsWire, Terms}
use Rattle.ix_core.specs.declared.turning.Core.{Core}
use Rattle.ix_feed.specs.Replays.{FeedView, left_of}
use Rattle.ix_feed.specs.Turns.{FeedBecame}
use Rattle.ix_fits.specs.Card.{entry_of, opening_table}
use Rattle.ix_plainstack.specs.Batches.{is_frame_work, work_number}
use Rattle.ix_plainstack.specs.Stack.{Stack, Advances, Drains}
use Rattle.ix_epochs.specs.Playing.{EpochPlays}
use Rattle.ix_settled.specs.Moments.{AreTold, Moment, Opening, Settled, stack_steps}

-- a core of a play
abbrev pub PlayCore : Type 0
PlayCore = Core Stack (Env Application)

-- ## Lines
-- the line of an entry that was carried out
abbrev pub IsLineOf : Entry → EntryLine → Type 0
IsLineOf (wire.Frame rec) (lines.Frame shown at group ring fate) = shown ≡ rec
IsLineOf (wire.Time t) (lines.Time u) = u ≡ t
IsLineOf (wire.Tag g) (lines.Tag h) = h ≡ g
IsLineOf (wire.Move g to) (lines.Move h d) = (h ≡ g) × (d ≡ to)
IsLineOf wire.Settle lines.Settle = Unit {0}
IsLineOf _ _ = ⊥

abbrev pub AreLinesOf : List Entry → List EntryLine → Type 0
AreLinesOf [] [] = Unit {0}
AreLinesOf [] (l ∷ ls) = ⊥
AreLinesOf (e ∷ es) [] = ⊥
AreLinesOf (e ∷ es) (l ∷ ls) = IsLineOf e l × AreLinesOf es ls

-- ## At a settle
-- the card, with what it was fed, and the cores of a play at its last settle so far, which is m, behind those of ms
pub record IsAt (p : Opening) (x : FeedView) (cores : List PlayCore) (m : Moment) (ms : List Moment) : Type 0 where
  pub settled : Settled p (m ∷ ms)
  pub told : AreTold p m
  pub done : m.done ≡ x.replay.lines
  pub frames : p.frames ≡ x.replay.frames
  -- the entries whose lines these are
  pub before : List Entry
  pub split : x.replay.entries ≡ before ++ left_of x.replay
  pub lines_are : AreLinesOf before m.done
  -- where each group is
  pub table : (g : ℕ) → seats x.card.table g ≡ turned_by (opening_table p.live) (map entry_of m.done) g
  pub count : length cores ≡ p.cores
  pub batches : (c : ℕ) (d : PlayCore) → c < length cores → (slice_index_or cores c d).batch ≡ p.batch
  pub desks : (c : ℕ) (d : PlayCore) → c < length cores → (slice_index_or cores c d).desks ≡ m.desks c

-- the opening of a play in which frames lie in these buffers
abbrev pub with_names : Opening → (WireNo → Name) → Opening
with_names p name = record p { name = name }

-- ## From settle to settle
-- One settle more was reached: the epoch's entries are carried out, and the frames among them that were accepted have buffers.
pub record Reached (p : Opening) (y : FeedView) (cores : List PlayCore) (m : Moment) (ms : List Moment) (line : SettleLine) : Type 0 where
  pub name : WireNo → Name
  pub same : (w : WireNo) → w.0 < length m.done → name w ≡ p.name w
  pub next : Moment
  pub line_is : next.line ≡ line
  pub at : IsAt (with_names p name) y cores next (m ∷ ms)

-- ## Laws
abbrev pub EpochsReachSettles : Type 0
EpochsReachSettles =
    (terms : Terms) (p : Opening) (x y : FeedView) (cores cores' : List PlayCore) (m : Moment) (ms : List Moment) (line : SettleLine)
    → IsWire terms x.replay.entries → terms.cores ≡ p.cores → IsAt p x cores m ms → x.replay.ended ≡ false → y.replay.ended ≡ true
    → length x.card.ports ≡ p.cores → length cores' ≡ length cores → ((c : ℕ) (d : PlayCore) → c < length cores → (slice_index_or cores' c d).batch ≡ (slice_index_or cores c d).batch)
    → FeedBecame x y → EpochPlays is_frame_work work_number stack_steps Advances Drains p.env x.card y.card cores cores' → Reached p y cores' m ms line

-- Nothing but the desks of the cores, the table and what was carried out tells where a play is.
abbrev pub SettlesStay : Type 0
SettlesStay =
    (p : Opening) (x y : FeedView) (cores cores' : List PlayCore) (m : Moment) (ms : List Moment) → IsAt p x cores m ms
    → y.replay.entries ≡ x.replay.entries → y.replay.frames ≡ x.replay.frames → y.replay.lines ≡ x.replay.lines → y.card.table ≡ x.card.table → length cores' ≡ length cores
    → ((c : ℕ) (d : PlayCore) → c < length cores → ((slice_index_or cores' c d).desks ≡ (slice_index_or cores c d).desks) × ((slice_index_or cores' c d).batch ≡ (slice_index_or cores c d).batch))
    → IsAt p y cores' m ms

-- a play before its first entry, at whose desks each group is at home on its opening core
pub record Begins (p : Opening) (x : FeedView) (cores : List PlayCore) (line : SettleLine) : Type 0 where
  pub first : Moment
  pub line_is : first.line ≡ line
  pub at : IsAt p x cores first []

abbrev pub OpeningsBegin : Type 0
OpeningsBegin =
    (terms : Terms) (p : Opening) (x : FeedView) (cores : List PlayCore) (line : SettleLine)
    → IsWire terms x.replay.entries → terms.cores ≡ p.cores → terms.live ≡ p.live → 1 ≤ p.live → p.live ≤ p.cores → x.replay.lines ≡ [] → p.frames ≡ x.replay.frames
    → ((g : ℕ) → seats x.card.table g ≡ opening_table p.live g) → length cores ≡ p.cores
    → ((c : ℕ) (d : PlayCore) → c < length cores → (slice_index_or cores c d).batch ≡ p.batch)
    → ((c : ℕ) (d : PlayCore) → c < length cores → (slice_index_or cores c d).desks ≡ p.desks c)
    → ((c : ℕ) → c < p.cores → (length (p.desks c).groups ≡ 512) × ((p.desks c).core ≡ c))
    → ((c g : ℕ) → c < p.cores → g < FLOW_GROUPS → group_at (p.desks c) g ≡ (if c == (opening_table p.live g).core then at_home (p.unit g) else empty))
    → Begins p x cores line
