use Rattle.std.proofs.lemmas.List.{map-append}
use Rattle.ix_mbuf.proofs.PoolLemmas.{is_out, given}
use Rattle.ix_mbuf.proofs.pool.Pool.give.Goals as goal

pub invariant_of-self : goal.invariant_of-self
invariant_of-self c =
    let out = rw (← c.self.view_is) at c.requires in
    let flags = is_out _ _ _ _ _ c.self.invariant out in
    rw (c.push_reserved.ensures.items, c.id-slot.ensures, c.push_reserved.ensures.capacity, map-append) (given _ _ _ _ _ c.self.invariant flags.at flags.set flags.below)
