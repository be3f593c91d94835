-- Each flow group of a play is on one of its cores, and its frames are offered there.
use Rattle.std.specs.Prelude.{◌≡◌, ◌<◌, ◌≤◌, ℕ, List}
use Rattle.std.specs.List.{AllByRecursion}
use Rattle.ix_lines.specs.declared.types.EntryLine.{EntryLine}
use Rattle.ix_nic.specs.Cards.{CardView}
use Rattle.ix_nic.specs.Words.{seats}
use Rattle.ix_wire.specs.declared.entry.Entry.{Entry}
use Rattle.ix_wire.specs.Entries.{IsWire, Terms}
use Rattle.ix_feed.specs.Replays.{FeedView}
use Rattle.ix_feed.specs.Turns.{FeedBecame}
use Rattle.ix_fed.specs.Fed.{MovesWithin}
use Rattle.ix_settled.specs.Moments.{Moment, Opening}
use Rattle.ix_course.specs.Course.{IsAt, PlayCore}
use Rattle.ix_slots.specs.Slots.{HasRing}

-- each flow group is on one of the first cores
abbrev pub AreSeated : ℕ → CardView → Type 0
AreSeated cores card = (g : ℕ) → (seats card.table g).core < cores

-- The moves of an epoch go to the first cores, and its frames are offered on their rings.
pub record IsWithin (cores : ℕ) (carried : List Entry) (told : List EntryLine) : Type 0 where
  pub moves : AllByRecursion (MovesWithin cores) carried
  pub rings : AllByRecursion (HasRing cores) told

-- what an epoch leaves of that, and what it tells
pub record KeepsSeats (cores : ℕ) (told : List EntryLine) (card : CardView) : Type 0 where
  pub rings : AllByRecursion (HasRing cores) told
  pub seated : AreSeated cores card

-- ## Laws
abbrev pub EpochsKeepSeats : Type 0
EpochsKeepSeats = (cores : ℕ) (x y : FeedView) (b : FeedBecame x y) → AreSeated cores x.card → AllByRecursion (MovesWithin cores) b.carried → KeepsSeats cores b.told y.card

-- from one settle of a play to the next
abbrev pub EpochsStayWithin : Type 0
EpochsStayWithin =
    (terms : Terms) (p : Opening) (x y : FeedView) (cores : List PlayCore) (m : Moment) (ms : List Moment) → IsWire terms x.replay.entries → terms.cores ≡ p.cores → 1 ≤ p.live → p.live ≤ p.cores
    → IsAt p x cores m ms → (b : FeedBecame x y) → IsWithin p.cores b.carried b.told
