use Rattle.std.proofs.Common.{get_or}
use Rattle.ix_nic.specs.Cards.{ChangesOne}
use Rattle.ix_nic.specs.Ports.{PortView}
use Rattle.ix_core.specs.Closing.{RecallsSome}
use Rattle.ix_core.proofs.closing.recall_posted.Given as goal

abbrev pub invariant-loop-i : goal.invariant-loop-i
invariant-loop-i l = record {
  others : ChangesOne l.core.0 l.initial.nic l.nic;
  so : (p : PortView) → RecallsSome l._i (get_or l.initial.nic.ports l.core.0 p) (get_or l.nic.ports l.core.0 p) l.initial.bufs.items l.bufs.items;
}
