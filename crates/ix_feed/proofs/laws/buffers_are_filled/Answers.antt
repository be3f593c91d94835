use Rattle.std.proofs.Common.{length}
use Rattle.ix_feed.proofs.Chains.{feeds_used}
use Rattle.ix_feed.proofs.laws.buffers_are_filled.Goals as goal

pub returns : goal.returns
returns c = λ x y b r d lt. feeds_used x.replay.frames (length x.replay.lines) x.replay.clock b.carried b.told x.card y.card b.fed r d lt
