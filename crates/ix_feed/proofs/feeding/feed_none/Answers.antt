use Rattle.std.proofs.Common.{subst, sym}
use Rattle.ix_feed.specs.Replays.{CanFeed, ReplayView, feed_view}
use Rattle.ix_feed.specs.Turns.{FeedBecame}
use Rattle.ix_feed.proofs.Following.{feeds_none}
use Rattle.ix_feed.proofs.Steps.{nothing_stays}
use Rattle.ix_feed.proofs.Turned.{none_became}
use Rattle.ix_feed.proofs.feeding.feed_none.Goals as goal

pub returns-then-waiting-eq0-clause-became : goal.returns-then-waiting-eq0-clause-became
returns-then-waiting-eq0-clause-became c =
    subst (λ (r : ReplayView). FeedBecame (feed_view c.args.nic.now c.args.replay.now) (feed_view c.retry-waiting.new.self r)) (sym c.wait.ensures)
    (none_became c.args.nic.now c.retry-waiting.new.self c.args.replay.now c.retry-waiting.result
    (nothing_stays c.args.nic.now c.retry-waiting.new.self c.retry-waiting.ensures.table
    (record { count = c.retry-waiting.ensures.rings.count; rings = λ r d lt. c.retry-waiting.ensures.rings.rings r d lt })))

pub returns-then-waiting-before-clause-feed : goal.returns-then-waiting-before-clause-feed
returns-then-waiting-before-clause-feed c =
    subst (λ (r : ReplayView). CanFeed c.retry-waiting.new.self r) (sym c.wait.ensures)
    (feeds_none c.args.nic.now c.retry-waiting.new.self c.args.replay.now c.retry-waiting.result c.requires.feed c.requires.ended
    (nothing_stays c.args.nic.now c.retry-waiting.new.self c.retry-waiting.ensures.table
    (record { count = c.retry-waiting.ensures.rings.count; rings = λ r d lt. c.retry-waiting.ensures.rings.rings r d lt }))
    c.retry-waiting.ensures.waiting)

pub returns-then-waiting-before-clause-became : goal.returns-then-waiting-before-clause-became
returns-then-waiting-before-clause-became c =
    subst (λ (r : ReplayView). FeedBecame (feed_view c.args.nic.now c.args.replay.now) (feed_view c.retry-waiting.new.self r)) (sym c.wait.ensures)
    (none_became c.args.nic.now c.retry-waiting.new.self c.args.replay.now c.retry-waiting.result
    (nothing_stays c.args.nic.now c.retry-waiting.new.self c.retry-waiting.ensures.table
    (record { count = c.retry-waiting.ensures.rings.count; rings = λ r d lt. c.retry-waiting.ensures.rings.rings r d lt })))

pub returns-else-waiting-before-clause-feed : goal.returns-else-waiting-before-clause-feed
returns-else-waiting-before-clause-feed c =
    subst (λ (r : ReplayView). CanFeed c.retry-waiting.new.self r) (sym c.wait.ensures)
    (feeds_none c.args.nic.now c.retry-waiting.new.self c.args.replay.now c.retry-waiting.result c.requires.feed c.requires.ended
    (nothing_stays c.args.nic.now c.retry-waiting.new.self c.retry-waiting.ensures.table
    (record { count = c.retry-waiting.ensures.rings.count; rings = λ r d lt. c.retry-waiting.ensures.rings.rings r d lt }))
    c.retry-waiting.ensures.waiting)

pub returns-else-waiting-before-clause-became : goal.returns-else-waiting-before-clause-became
returns-else-waiting-before-clause-became c =
    subst (λ (r : ReplayView). FeedBecame (feed_view c.args.nic.now c.args.replay.now) (feed_view c.retry-waiting.new.self r)) (sym c.wait.ensures)
    (none_became c.args.nic.now c.retry-waiting.new.self c.args.replay.now c.retry-waiting.result
    (nothing_stays c.args.nic.now c.retry-waiting.new.self c.retry-waiting.ensures.table
    (record { count = c.retry-waiting.ensures.rings.count; rings = λ r d lt. c.retry-waiting.ensures.rings.rings r d lt })))
