use Rattle.ix_ring.specs.Ends.{SameTakeEnd}
use Rattle.ix_core.specs.Landing.{home_in}
use Rattle.ix_core.specs.Homing.{TookSome}
use Rattle.ix_core.proofs.homing.empty_ring.Given as goal

abbrev pub invariant-loop-i : goal.invariant-loop-i
invariant-loop-i g l = record {
  ring : SameTakeEnd l.initial.take l.take;
  so : TookSome home_in l._i l.initial.take l.take l.initial.bufs.items l.bufs.items;
}
