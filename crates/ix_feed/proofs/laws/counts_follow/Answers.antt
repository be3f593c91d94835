use Rattle.std.proofs.Common.{length}
use Rattle.ix_feed.proofs.Chains.{feeds_counted}
use Rattle.ix_feed.proofs.laws.counts_follow.Goals as goal

pub returns : goal.returns
returns c = λ x y b r d lt below few.
    feeds_counted x.replay.frames (length x.replay.lines) x.replay.clock b.carried b.told x.card y.card b.fed r d lt below few
