use Rattle.std.proofs.Common.{◌≡◌, length, vec_capacity}
use Rattle.ix_mbuf.specs.Pools.{all_names, FreeAndOut}
use Rattle.ix_mbuf.specs.Buffers.{names_of}
use Rattle.ix_mbuf.proofs.pool.Pool.new.Given as goal

abbrev pub invariant-loop-slot : goal.invariant-loop-slot
invariant-loop-slot l = record {
  names : names_of l.free.items ≡ all_names l.home l.slot;
  flags : length l.out.items ≡ l.slot;
  kept : FreeAndOut l.home l.out.items (names_of l.free.items) l.n;
  room : vec_capacity l.free ≡ l.n;
  space : vec_capacity l.out ≡ l.n;
}
