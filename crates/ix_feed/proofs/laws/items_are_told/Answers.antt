use Rattle.std.proofs.Common.{length}
use Rattle.ix_feed.proofs.Chains.{entries_stand, feeds_told, lines_stand, name_in}
use Rattle.ix_feed.proofs.laws.items_are_told.Goals as goal

pub returns : goal.returns
returns c = λ x y b. record {
  name = name_in x.replay.frames (length x.replay.lines) x.replay.clock b.carried b.told x.card y.card b.fed;
  rings = λ r d lt.
      feeds_told x.replay.frames (length x.replay.lines) x.replay.clock b.carried b.told x.card y.card y.replay b.frames (entries_stand x y b) (lines_stand x y b) b.fed r d lt;
}
