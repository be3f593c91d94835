use Rattle.ix_ring.proofs.Prefixes.{prefix_joins}
use Rattle.ix_ring.proofs.ends.both.meet.Goals as goal

pub returns-clause-known : goal.returns-clause-known
returns-clause-known g c =
    rw (← c.take.view_is) (prefix_joins _ _ _ c.slots_beside-free.ensures.consumer.2 c.slots_beside.ensures.looked.2)
