use Rattle.std.proofs.Common.{◌≡◌, true}
use Rattle.ix_feed.specs.Replays.{CanFeed, feed_view}
use Rattle.ix_feed.specs.Turns.{FeedBecame}
use Rattle.ix_core.specs.Meeting.{AreInOrder}
use Rattle.ix_epochs.specs.Epochs.{HasEnded}
use Rattle.ix_epochs.specs.Rest.{AllRest}
use Rattle.ix_epochs.specs.Workers.{CoresBecame}
use Rattle.ix_epochs.proofs.running.finish.Given as goal

abbrev pub invariant-loop : goal.invariant-loop
invariant-loop g l = record {
  order : AreInOrder l.nic l.cores;
  can : CanFeed l.nic l.replay;
  feed : FeedBecame (feed_view l.initial.nic l.initial.replay) (feed_view l.nic l.replay);
  cores : CoresBecame g.G.Unit.counted g.G.Unit.name g.G.Unit.stepped g.G.Unit.advanced g.G.GroupStack.drained l.env l.initial.cores l.cores;
  rest : l.at_rest ≡ true → HasEnded l.nic l.replay × AllRest g.G.GroupStack.drained l.cores;
}
