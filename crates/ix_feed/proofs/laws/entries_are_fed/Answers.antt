use Rattle.std.proofs.Common.{length}
use Rattle.ix_feed.proofs.CarriedOut.{feeds_out}
use Rattle.ix_feed.proofs.laws.entries_are_fed.Goals as goal

pub returns : goal.returns
returns c = λ x y b.
    feeds_out c.entries_are_carried_out.ensures x.replay.frames (length x.replay.lines) x.replay.clock b.carried b.told x.card y.card b.fed
