use Rattle.std.proofs.Common.{length}
use Rattle.ix_core.specs.Links.{SameLink, Sends}
use Rattle.ix_core.proofs.link.send.Given as goal

abbrev pub invariant-loop-message : goal.invariant-loop-message
invariant-loop-message g l = record {
  same : SameLink l.initial.link l.link;
  sent : Sends l.initial.link l.link;
}

abbrev pub decreases-loop-message : goal.decreases-loop-message
decreases-loop-message g l = length l.link.waiting.items
