use Rattle.std.proofs.Common.{◌∙◌, sym}
use Rattle.ix_feed.specs.Laws.{feed_joins, feed_stays}
use Rattle.ix_epochs.proofs.Rounds.{cores_on, cores_stay, epoch_over}
use Rattle.ix_epochs.proofs.running.finish.Goals as goal

pub loop-init : goal.loop-init
loop-init g c = record {
  order = c.requires.order;
  can = c.requires.feed;
  feed = feed_stays _;
  cores = cores_stay g.G.Unit.counted g.G.Unit.name g.G.Unit.stepped g.G.Unit.advanced g.G.GroupStack.drained c.args.env.now _;
  rest = λ e. absurd (cc);
}

pub returns-then-not-rings_have-clause-ran : goal.returns-then-not-rings_have-clause-ran
returns-then-not-rings_have-clause-ran g c =
    let over = c.loop.invariant.rest c.if-at_rest.true in
    epoch_over g.G.Unit.counted g.G.Unit.name g.G.Unit.stepped g.G.Unit.advanced g.G.GroupStack.drained c.args.env.now _ _ _ _ _ _ c.loop.invariant.feed c.meet.ensures.became c.meet.ensures.ended c.loop.invariant.cores
    c.meet.ensures.cores over.0 over.1 c.meet.ensures.order c.meet.ensures.told (sym c.rings_have.ensures ∙ c.if-not-rings_have.true)

pub loop-preserved : goal.loop-preserved
loop-preserved g c = record {
  order = c.in_ok-at_rest.ensures.order;
  can = c.in_ok-at_rest.ensures.feed;
  feed = feed_joins _ _ _ c.loop.invariant.feed (feed_joins _ _ _ c.meet.ensures.became c.in_ok-at_rest.ensures.became);
  cores = cores_on g.G.Unit.counted g.G.Unit.name g.G.Unit.stepped g.G.Unit.advanced g.G.GroupStack.drained c.args.env.now _ _ _ _ c.loop.invariant.cores c.meet.ensures.cores c.in_ok-at_rest.ensures.cores;
  rest = c.in_ok-at_rest.ensures.rest;
}
