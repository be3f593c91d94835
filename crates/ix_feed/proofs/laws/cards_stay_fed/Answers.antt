use Rattle.ix_feed.proofs.Opening.{meets, settles}
use Rattle.ix_feed.proofs.laws.cards_stay_fed.Goals as goal

pub returns : goal.returns
returns c = record { meets = meets; settles = settles }
