use Rattle.ix_feed.specs.Replays.{feed_view}
use Rattle.ix_epochs.proofs.Rounds.{epoch_begun, feed_apart, same_cores, same_rings}
use Rattle.ix_epochs.proofs.running.run_epoch.Goals as goal

pub finish_all-requires-clause-order : goal.finish_all-requires-clause-order
finish_all-requires-clause-order g c =
    let became = feed_apart (feed_view c.args.nic c.args.replay) (feed_view c.apart-nic.result.0 c.apart-nic.result.1) _ _ c.new-fed.ensures c.apart-nic.ensures.apart c.in_ok-fed.ensures.feed in
    c.order_stays.ensures c.args.nic c.apart-nic.result.0 c.args.cores.items c.in_ok-fed.cores.items c.requires.order (same_rings _ _ became)
    (same_cores g.G.Unit.counted g.G.Unit.name g.G.Unit.stepped g.G.Unit.advanced g.G.GroupStack.drained c.args.env.now _ _ c.in_ok-fed.ensures.cores)

pub returns-clause-ran : goal.returns-clause-ran
returns-clause-ran g c =
    let became = feed_apart (feed_view c.args.nic c.args.replay) (feed_view c.apart-nic.result.0 c.apart-nic.result.1) _ _ c.new-fed.ensures c.apart-nic.ensures.apart c.in_ok-fed.ensures.feed in
    epoch_begun g.G.Unit.counted g.G.Unit.name g.G.Unit.stepped g.G.Unit.advanced g.G.GroupStack.drained c.args.env.now _ _ _ _ _ _ became c.in_ok-fed.ensures.cores c.in_ok-finish_all.ensures.ran
