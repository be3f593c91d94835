use Rattle.std.proofs.Common.{◌≡◌, ◌++◌, ◌∷◌, [], ap, arith, add-one}
use Rattle.std.proofs.lemmas.Grind.{common_steps}
use Rattle.std.proofs.lemmas.List.{map-append}
use Rattle.ix_mbuf.specs.Buffers.{Buffer, names_of}
use Rattle.ix_mbuf.specs.Pools.{unused}
use Rattle.ix_mbuf.proofs.PoolLemmas.{made, times-all_names, at_home-all_names}
use Rattle.ix_mbuf.proofs.pool.Pool.new.Goals as goal

pub loop-slot-preserved : goal.loop-slot-preserved
loop-slot-preserved c =
    let free : names_of c.push_reserved.new.self.items ≡ names_of c.loop-slot.free.items ++ unused c.args.home c.loop-slot.slot ∷ [] =
    rw (c.push_reserved.ensures.items, map-append) (ap (λ (b : Buffer). names_of c.loop-slot.free.items ++ b.name ∷ []) c.in_ok-buf.ensures) in
    record {
      names = rw (free, c.loop-slot.invariant.names, add-one);
      flags = grind (arith, common_steps);
      kept = rw (free, c.push_reserved-in-loop-slot.ensures.items, ← c.loop-slot.invariant.flags) (made _ _ _ _ c.loop-slot.invariant.kept (omega arith));
      room = grind (arith, common_steps);
      space = grind (arith, common_steps);
    }

pub returns-clause-each : goal.returns-clause-each
returns-clause-each c =
    let whole : c.loop-slot.slot ≡ c.args.n = omega arith in
    rw (c.loop-slot.invariant.names, whole) (λ id. times-all_names id c.args.home c.args.n)

pub returns-clause-homes : goal.returns-clause-homes
returns-clause-homes c =
    let whole : c.loop-slot.slot ≡ c.args.n = omega arith in
    rw (c.loop-slot.invariant.names, whole) (λ core. at_home-all_names core c.args.home c.args.n)
