-- What turns of the card make of it, and what one turn does.
use Rattle.std.specs.Prelude.{◌≡◌, ◌<◌, ℕ, suc, ◌==◌, ◌&&◌, if◌then◌else◌, Bool, true, not, List, [], ◌∷◌, ◌++◌, length, fold, slice_index_or}
use Rattle.ix_lines.specs.declared.types.EntryLine.{EntryLine}
use Rattle.ix_nic.specs.Cards.{CardView, all_waiting}
use Rattle.ix_nic.specs.Ports.{IsRetried, PortView}
use Rattle.ix_ring.specs.Ends.{SamePutEnd, SameTakeEnd}
use Rattle.ix_run.specs.declared.actors.Turn.{Turn}
use Rattle.ix_run.specs.declared.actors.Turn.TheVariants.{Ended, Idle, Worked}
use Rattle.ix_wire.specs.declared.entry.Entry.{Entry}
use Rattle.ix_wire.specs.Entries.{EachAllowed, clock_by, is_frame}
use Rattle.ix_feed.specs.Feeding.{CarriedBy, Feeds}
use Rattle.ix_feed.specs.Replays.{FeedView, ReplayView, is_settle, left_of}

-- the same ends of the rings of a core
pub record SamePortRings (p q : PortView) : Type 0 where
  pub items : SamePutEnd p.ring q.ring
  pub posts : SameTakeEnd p.posts q.posts

-- the same ends of the rings of all cores
pub record SameRings (old new : CardView) : Type 0 where
  pub count : length new.ports ≡ length old.ports
  pub ports : (r : ℕ) (d : PortView) → r < length old.ports → SamePortRings (slice_index_or old.ports r d) (slice_index_or new.ports r d)

-- whether the epoch is over, after an entry
abbrev pub ended_by : Bool → Entry → Bool
ended_by ended e = if is_settle e then true else ended

-- an entry comes only where the epoch is not over
abbrev pub comes_before_the_end : Bool → Entry → Bool
comes_before_the_end ended e = not ended

-- The next entries were carried out, none of them behind the settle of the epoch. The rings are the same, and nothing but what these entries do
-- became of the card.
pub record FeedBecame (x y : FeedView) : Type 0 where
  pub entries : y.replay.entries ≡ x.replay.entries
  pub frames : y.replay.frames ≡ x.replay.frames
  -- the entries that were carried out, and their lines
  pub carried : List Entry
  pub told : List EntryLine
  pub left : left_of x.replay ≡ carried ++ left_of y.replay
  pub lines : y.replay.lines ≡ x.replay.lines ++ told
  pub clock : y.replay.clock ≡ fold clock_by x.replay.clock carried
  pub epoch : EachAllowed comes_before_the_end ended_by x.replay.ended carried
  pub ended : y.replay.ended ≡ fold ended_by x.replay.ended carried
  pub fed : Feeds x.replay.frames (length x.replay.lines) x.replay.clock carried told x.card y.card
  pub rings : SameRings x.card y.card

-- ## One turn
-- its line is noted, and the clock is its time, where it sets that
abbrev pub noted : Entry → EntryLine → ReplayView → ReplayView
noted e line r = record r { lines = r.lines ++ line ∷ []; clock = clock_by r.clock e }

-- the epoch is over, with so many items behind the rings
abbrev pub over : ℕ → ReplayView → ReplayView
over waiting r = record r { ended = true; waiting = waiting }

-- An entry was carried out, and noted.
pub record Carried (e : Entry) (card : CardView) (r : ReplayView) (card' : CardView) (r' : ReplayView) : Type 0 where
  pub line : EntryLine
  pub carried : CarriedBy r.frames (length r.lines) r.clock e line card card'
  pub noted_is : r' ≡ noted e line r

-- the number of frames among the entries that a turn carries out: one entry, where the epoch is not over
abbrev pub frames_next : Bool → List Entry → ℕ
frames_next ended [] = 0
frames_next ended (e ∷ es) = if not ended && is_frame e then 1 else 0

-- Ended: the end of the epoch was put, and nothing stands behind a ring. Idle: no entry was carried out, and nothing was put.
abbrev pub answer_of : FeedView → FeedView → Turn
answer_of x y =
    let frames : ℕ = frames_next x.replay.ended (left_of x.replay) in
    if y.replay.ended && all_waiting y.card.ports == 0 then Ended frames
    else if x.replay.ended && all_waiting x.card.ports == all_waiting y.card.ports then Idle
    else Worked frames

-- One entry is carried out where the epoch is not over, and none where it is; and what stands behind the rings is put as far as each takes it.
pub record FeedTurned (answer : Turn) (x y : FeedView) : Type 0 where
  pub count : length y.replay.lines ≡ (if x.replay.ended then length x.replay.lines else suc (length x.replay.lines))
  pub answer_is : answer ≡ answer_of x y
  pub retried : (r : ℕ) (d : PortView) → r < length y.card.ports → IsRetried (slice_index_or y.card.ports r d)
