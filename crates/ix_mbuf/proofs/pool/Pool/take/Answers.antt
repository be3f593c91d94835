use Rattle.std.proofs.Common.{rules, ◌<◌, length, ◌≡◌, ◌++◌, ◌∷◌, []}
use Rattle.std.proofs.lemmas.List.{map-append}
use Rattle.ix_mbuf.specs.Buffers.{names_of}
use Rattle.ix_mbuf.proofs.PoolLemmas.{is_in-last, slot-lt, taken}
use Rattle.ix_mbuf.proofs.pool.Pool.take.Goals as goal

pub index_mut-requires : goal.index_mut-requires
index_mut-requires c =
    let is : names_of c.self.inside.free.items ≡ names_of c.pop.new.self.items ++ c.in-Some.buf.name ∷ [] = rw c.in-Some.ensures.items (map-append _ _ _) in
    let lt : c.id-slot.result.slot < length c.self.inside.out.items = rw c.id-slot.ensures (slot-lt _ _ _ (is_in-last _ _ _ _ _ _ c.self.invariant is)) in
    search rules

pub invariant_of-self-2 : goal.invariant_of-self-2
invariant_of-self-2 c =
    let is : names_of c.self.inside.free.items ≡ names_of c.pop.new.self.items ++ c.in-Some.buf.name ∷ [] = rw c.in-Some.ensures.items (map-append _ _ _) in
    rw (c.id-slot.ensures, c.in-Some.ensures.capacity) (taken _ _ _ _ _ _ c.self.invariant is)
