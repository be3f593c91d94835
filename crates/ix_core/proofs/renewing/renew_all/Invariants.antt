use Rattle.ix_core.specs.Renewing.{AreCounts, RenewedSome}
use Rattle.ix_core.proofs.renewing.renew_all.Given as goal

abbrev pub invariant-loop-place : goal.invariant-loop-place
invariant-loop-place g l = record {
  so : RenewedSome l.place l.initial.nic l.nic l.initial.cores l.cores;
  counts : AreCounts l.place l.rings.items l.nic;
}
