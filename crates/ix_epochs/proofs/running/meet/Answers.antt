use Rattle.std.proofs.Common.{◌∙◌}
use Rattle.ix_feed.specs.Laws.{feed_meets}
use Rattle.ix_epochs.proofs.Meetings.{card_met, card_stays, waits_same}
use Rattle.ix_epochs.proofs.running.meet.Goals as goal

pub returns-clause-feed : goal.returns-clause-feed
returns-clause-feed g c = c.cards_stay_fed.ensures.meets _ _ _ c.requires.feed (card_met _ _ c.meet_all.ensures.card)

pub returns-clause-became : goal.returns-clause-became
returns-clause-became g c = feed_meets _ _ _ (card_stays _ _ c.meet_all.ensures.card)

pub returns-clause-ended : goal.returns-clause-ended
returns-clause-ended g c = λ e. (e.0, waits_same _ _ c.meet_all.ensures.card ∙ e.1)
