use Rattle.ix_wire.specs.Text.{NoFeed}
use Rattle.ix_wire.proofs.text.find_feed.Given as goal

abbrev pub invariant-loop-i : goal.invariant-loop-i
invariant-loop-i l = NoFeed l.bytes l.i
