use Rattle.ix_feed.proofs.Opening.{clear_card, few_moves, wires_feed}
use Rattle.ix_feed.proofs.laws.wires_can_be_fed.Goals as goal

pub returns : goal.returns
returns c = record { feeds = wires_feed; clear = clear_card; turns = few_moves }
