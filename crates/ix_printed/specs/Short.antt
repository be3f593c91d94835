-- How many entries an epoch has: docs/SCRIPT.md, "The wire list".
use Rattle.std.specs.Prelude.{◌≡◌, ◌≤◌, ◌<◌, ◌*◌, ◌^◌, ℕ, false, length}
use Rattle.ix_wire.specs.Entries.{IsWire, Terms}
use Rattle.ix_feed.specs.Replays.{FeedView}
use Rattle.ix_feed.specs.Turns.{FeedBecame}

-- An epoch of a wire list ends at its first settle: before that stand at most 262,144 frames and 1,000 tags, moves and times. So on up to eight
-- cores it has fewer than 2^32 entries, each counted once for each core.
abbrev pub EpochsAreShort : Type 0
EpochsAreShort =
    (terms : Terms) (x y : FeedView) (b : FeedBecame x y) (cores : ℕ) → IsWire terms x.replay.entries → x.replay.ended ≡ false → cores ≤ 8
    → cores * length b.told < 2 ^ 32
