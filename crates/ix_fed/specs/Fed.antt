-- The course of a card that is fed: an epoch and its settle behind the entries so far.
use Rattle.std.specs.Prelude.{◌≡◌, ◌<◌, ℕ, true, false, List, [], ◌∷◌, ◌++◌, fold, length}
use Rattle.std.specs.List.{AllByRecursion, list_any}
use Rattle.ix_lines.specs.declared.types.EntryLine.{EntryLine}
use Rattle.ix_lines.specs.declared.types.EntryLine.TheVariants as lines
use Rattle.ix_lines.specs.declared.types.SettleLine.{SettleLine}
use Rattle.ix_nic.specs.Cards.{CardView}
use Rattle.ix_wire.specs.declared.entry.Entry.{Entry}
use Rattle.ix_wire.specs.declared.entry.Entry.TheVariants as wire
use Rattle.ix_wire.specs.Entries.{clock_by}
use Rattle.ix_feed.specs.Replays.{FeedView}
use Rattle.ix_feed.specs.Turns.{FeedBecame}
use Rattle.ix_fits.specs.Cutting.{is_settle}
use Rattle.ix_carried.specs.Course.{Course, IsSettled}

-- a move names a core of the play
abbrev pub MovesWithin : ℕ → Entry → Type 0
MovesWithin cores (wire.Move group to) = to.0 < cores
MovesWithin cores (wire.Frame rec) = Unit {0}
MovesWithin cores (wire.Time t) = Unit {0}
MovesWithin cores (wire.Tag group) = Unit {0}
MovesWithin cores wire.Settle = Unit {0}

-- Where an epoch was carried out behind these entries, and settled, the course goes on with its entries and lines.
abbrev pub CoursesGoOn : Type 0
CoursesGoOn =
    (xs : List Entry) (ys : List EntryLine) (settles : List SettleLine) (opened : CardView) (x y : FeedView) (after : CardView) (line : SettleLine)
    → length ys ≡ length xs → x.replay.lines ≡ ys → x.replay.clock ≡ fold clock_by 0 xs → x.replay.ended ≡ false → y.replay.ended ≡ true
    → Course x.replay.frames 0 0 xs ys settles opened x.card → (b : FeedBecame x y) → AllByRecursion (MovesWithin (length x.card.ports)) b.carried → IsSettled line y.card after
    → Course x.replay.frames 0 0 (xs ++ b.carried) y.replay.lines (settles ++ line ∷ []) opened after

-- the lines of an epoch: the last of them is a settle's, and no other
pub record EndsInSettle (told : List EntryLine) : Type 0 where
  pub between : List EntryLine
  pub no_settle : list_any is_settle between ≡ false
  pub is : told ≡ between ++ lines.Settle ∷ []

abbrev pub EpochsEndInSettles : Type 0
EpochsEndInSettles = (x y : FeedView) → x.replay.ended ≡ false → y.replay.ended ≡ true → (b : FeedBecame x y) → EndsInSettle b.told
