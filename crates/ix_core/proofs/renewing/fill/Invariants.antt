use Rattle.ix_ring.specs.Ends.{SamePutEnd}
use Rattle.ix_core.specs.Renewing.{FillsSome}
use Rattle.ix_core.proofs.renewing.fill.Given as goal

abbrev pub invariant-loop-i : goal.invariant-loop-i
invariant-loop-i l = record {
  ring : SamePutEnd l.initial.posted l.posted;
  so : FillsSome l._i l.initial.pool l.pool l.initial.posted l.posted;
}
