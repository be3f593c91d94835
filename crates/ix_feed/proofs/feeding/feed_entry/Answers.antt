use Rattle.std.proofs.Common.{◌≡◌, true, false, rules, subst, sym, ◌∙◌, ap}
use Rattle.ix_feed.specs.Replays.{CanFeed, ReplayView, feed_view, is_settle}
use Rattle.ix_feed.specs.Turns.{FeedBecame, FeedTurned, over}
use Rattle.ix_run.specs.declared.actors.Turn.TheVariants.{Ended, Worked}
use Rattle.ix_feed.proofs.Following.{feeds_ended, feeds_on}
use Rattle.ix_feed.proofs.Steps.{nothing_stays}
use Rattle.ix_feed.proofs.Turned.{entry_became, entry_turned, settle_became, settle_ended, settle_worked}
use Rattle.ix_feed.proofs.feeding.feed_entry.Goals as goal

pub returns-then-not-is_settle-clause-feed : goal.returns-then-not-is_settle-clause-feed
returns-then-not-is_settle-clause-feed c =
    let not_settle : is_settle c.args.entry ≡ false = search rules in
    subst (λ (r : ReplayView). CanFeed c.carry_out.new.nic r) (sym c.carry_out.ensures.noted_is)
    (feeds_on c.args.entry c.carry_out.ensures.line c.args.nic.now c.carry_out.new.nic c.args.replay.now c.requires.feed c.requires.next not_settle c.carry_out.ensures.carried)

pub returns-then-not-is_settle-clause-became : goal.returns-then-not-is_settle-clause-became
returns-then-not-is_settle-clause-became c =
    let not_settle : is_settle c.args.entry ≡ false = search rules in
    subst (λ (r : ReplayView). FeedBecame (feed_view c.args.nic.now c.args.replay.now) (feed_view c.carry_out.new.nic r)) (sym c.carry_out.ensures.noted_is)
    (entry_became c.args.entry c.carry_out.ensures.line c.args.nic.now c.carry_out.new.nic c.args.replay.now c.requires.next c.carry_out.ensures.carried not_settle)

pub returns-then-not-is_settle-clause-turned : goal.returns-then-not-is_settle-clause-turned
returns-then-not-is_settle-clause-turned c =
    subst (λ (r : ReplayView). FeedTurned (Worked c.frames_of-frames.result) (feed_view c.args.nic.now c.args.replay.now) (feed_view c.carry_out.new.nic r))
    (sym c.carry_out.ensures.noted_is)
    (entry_turned c.args.entry c.carry_out.ensures.line c.args.nic.now c.carry_out.new.nic c.args.replay.now c.frames_of-frames.result c.requires.next c.carry_out.ensures.carried c.frames_of-frames.ensures)

pub returns-then-waiting-eq0-clause-feed : goal.returns-then-waiting-eq0-clause-feed
returns-then-waiting-eq0-clause-feed c =
    let settle : is_settle c.args.entry ≡ true = search rules in
    subst (λ (r : ReplayView). CanFeed c.retry-waiting.new.self r) (sym (c.end.ensures ∙ ap (over c.retry-waiting.result) c.carry_out.ensures.noted_is))
    (feeds_ended c.args.entry c.carry_out.ensures.line c.args.nic.now c.carry_out.new.nic c.retry-waiting.new.self c.args.replay.now c.retry-waiting.result c.requires.feed c.requires.next settle c.carry_out.ensures.carried
    (nothing_stays c.carry_out.new.nic c.retry-waiting.new.self c.retry-waiting.ensures.table
    (record { count = c.retry-waiting.ensures.rings.count; rings = λ r d lt. c.retry-waiting.ensures.rings.rings r d lt }))
    c.retry-waiting.ensures.waiting)

pub returns-then-waiting-eq0-clause-became : goal.returns-then-waiting-eq0-clause-became
returns-then-waiting-eq0-clause-became c =
    let settle : is_settle c.args.entry ≡ true = search rules in
    subst (λ (r : ReplayView). FeedBecame (feed_view c.args.nic.now c.args.replay.now) (feed_view c.retry-waiting.new.self r)) (sym (c.end.ensures ∙ ap (over c.retry-waiting.result) c.carry_out.ensures.noted_is))
    (settle_became c.args.entry c.carry_out.ensures.line c.args.nic.now c.carry_out.new.nic c.retry-waiting.new.self c.args.replay.now c.retry-waiting.result c.requires.next c.carry_out.ensures.carried
    (nothing_stays c.carry_out.new.nic c.retry-waiting.new.self c.retry-waiting.ensures.table
    (record { count = c.retry-waiting.ensures.rings.count; rings = λ r d lt. c.retry-waiting.ensures.rings.rings r d lt }))
    settle)

pub returns-then-waiting-eq0-clause-turned : goal.returns-then-waiting-eq0-clause-turned
returns-then-waiting-eq0-clause-turned c =
    subst (λ (r : ReplayView). FeedTurned (Ended c.frames_of-frames.result) (feed_view c.args.nic.now c.args.replay.now) (feed_view c.retry-waiting.new.self r))
    (sym (c.end.ensures ∙ ap (over c.retry-waiting.result) c.carry_out.ensures.noted_is))
    (settle_ended c.args.entry c.carry_out.ensures.line c.args.nic.now c.carry_out.new.nic c.retry-waiting.new.self c.args.replay.now c.retry-waiting.result c.frames_of-frames.result c.requires.next
    (record { count = c.retry-waiting.ensures.rings.count; rings = λ r d lt. c.retry-waiting.ensures.rings.rings r d lt })
    c.retry-waiting.ensures.waiting c.frames_of-frames.ensures c.if-waiting-eq0.true)

pub returns-else-waiting-eq0-clause-feed : goal.returns-else-waiting-eq0-clause-feed
returns-else-waiting-eq0-clause-feed c =
    let settle : is_settle c.args.entry ≡ true = search rules in
    subst (λ (r : ReplayView). CanFeed c.retry-waiting.new.self r) (sym (c.end.ensures ∙ ap (over c.retry-waiting.result) c.carry_out.ensures.noted_is))
    (feeds_ended c.args.entry c.carry_out.ensures.line c.args.nic.now c.carry_out.new.nic c.retry-waiting.new.self c.args.replay.now c.retry-waiting.result c.requires.feed c.requires.next settle c.carry_out.ensures.carried
    (nothing_stays c.carry_out.new.nic c.retry-waiting.new.self c.retry-waiting.ensures.table
    (record { count = c.retry-waiting.ensures.rings.count; rings = λ r d lt. c.retry-waiting.ensures.rings.rings r d lt }))
    c.retry-waiting.ensures.waiting)

pub returns-else-waiting-eq0-clause-became : goal.returns-else-waiting-eq0-clause-became
returns-else-waiting-eq0-clause-became c =
    let settle : is_settle c.args.entry ≡ true = search rules in
    subst (λ (r : ReplayView). FeedBecame (feed_view c.args.nic.now c.args.replay.now) (feed_view c.retry-waiting.new.self r)) (sym (c.end.ensures ∙ ap (over c.retry-waiting.result) c.carry_out.ensures.noted_is))
    (settle_became c.args.entry c.carry_out.ensures.line c.args.nic.now c.carry_out.new.nic c.retry-waiting.new.self c.args.replay.now c.retry-waiting.result c.requires.next c.carry_out.ensures.carried
    (nothing_stays c.carry_out.new.nic c.retry-waiting.new.self c.retry-waiting.ensures.table
    (record { count = c.retry-waiting.ensures.rings.count; rings = λ r d lt. c.retry-waiting.ensures.rings.rings r d lt }))
    settle)

pub returns-else-waiting-eq0-clause-turned : goal.returns-else-waiting-eq0-clause-turned
returns-else-waiting-eq0-clause-turned c =
    subst (λ (r : ReplayView). FeedTurned (Worked c.frames_of-frames.result) (feed_view c.args.nic.now c.args.replay.now) (feed_view c.retry-waiting.new.self r))
    (sym (c.end.ensures ∙ ap (over c.retry-waiting.result) c.carry_out.ensures.noted_is))
    (settle_worked c.args.entry c.carry_out.ensures.line c.args.nic.now c.carry_out.new.nic c.retry-waiting.new.self c.args.replay.now c.retry-waiting.result c.frames_of-frames.result c.requires.next
    (record { count = c.retry-waiting.ensures.rings.count; rings = λ r d lt. c.retry-waiting.ensures.rings.rings r d lt })
    c.retry-waiting.ensures.waiting c.frames_of-frames.ensures c.if-waiting-eq0.false)
