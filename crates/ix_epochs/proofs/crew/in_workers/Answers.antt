use Rattle.ix_epochs.proofs.Crews.{cores_of, feed_of, is_crew}
use Rattle.std.proofs.Common.{Global, Vec}
use Rattle.std.proofs.lemmas.Result.{IfOk-weaker}
use Rattle.ix_core.specs.declared.turning.Core.{Core}
use Rattle.ix_feed.specs.Replays.{FeedView}
use Rattle.ix_epochs.proofs.crew.in_workers.Goals as goal

pub unpacked-requires : goal.unpacked-requires
unpacked-requires g c = is_crew g.G.Unit.counted g.G.Unit.name g.G.Unit.stepped g.G.Unit.advanced g.G.GroupStack.drained c.args.env.now c.args.feed c.args.cores.items _ _ c.in_ok-workers.ensures c.work.ensures

pub returns-clause-feed : goal.returns-clause-feed
returns-clause-feed g c =
    IfOk-weaker _ _ _
    (λ (r : FeedView × Vec (Core g.row.G.Denot g.row.G-Env.Denot) Global) e. feed_of g.G.Unit.counted g.G.Unit.name g.G.Unit.stepped g.G.Unit.advanced g.G.GroupStack.drained c.args.env.now c.args.feed r.0 c.args.cores.items r.1.items _ _ c.in_ok-workers.ensures e c.work.ensures)
    c.unpacked.ensures

pub returns-clause-cores : goal.returns-clause-cores
returns-clause-cores g c =
    IfOk-weaker _ _ _
    (λ (r : FeedView × Vec (Core g.row.G.Denot g.row.G-Env.Denot) Global) e. cores_of g.G.Unit.counted g.G.Unit.name g.G.Unit.stepped g.G.Unit.advanced g.G.GroupStack.drained c.args.env.now c.args.feed r.0 c.args.cores.items r.1.items _ _ c.in_ok-workers.ensures e c.work.ensures)
    c.unpacked.ensures
