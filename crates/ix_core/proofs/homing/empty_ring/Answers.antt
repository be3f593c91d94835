use Rattle.std.proofs.Common.{rules, arith, ◌≡◌, ◌<◌, ◌∷◌, ◌++◌, [], length}
use Rattle.std.proofs.lemmas.Grind.{common_steps}
use Rattle.ix_ring.specs.Ends.{known}
use Rattle.ix_core.specs.Landing.{home_in, ship_in}
use Rattle.ix_core.proofs.Homings.{took_all, took_bufs, took_known, took_more, took_none, took_none_in}
use Rattle.ix_core.proofs.homing.empty_ring.Goals as goal

pub loop-i-init : goal.loop-i-init
loop-i-init g c = record { ring = search rules; so = took_none home_in _ _ }

pub unreachable-requires : goal.unreachable-requires
unreachable-requires g c =
    let lt : c.loop-i._i < length (known c.args.take.now) = omega (arith, c.known_count-count.ensures) in
    took_known home_in _ _ _ _ _ lt c.loop-i.invariant.so c.in_default.ensures.none.1

pub into_buffer-buf-requires : goal.into_buffer-buf-requires
into_buffer-buf-requires g c =
    let lt : c.loop-i._i < length (known c.args.take.now) = omega (arith, c.known_count-count.ensures) in
    took_none_in home_in ship_in _ _ _ c.take.new.self _ _ _ c.requires lt c.loop-i.invariant.so c.in-Some.ensures.some.1

pub loop-i-preserved : goal.loop-i-preserved
loop-i-preserved g c =
    let lt : c.loop-i._i < length (known c.args.take.now) = omega (arith, c.known_count-count.ensures) in
    let pushed : c.push.new.self.items ≡ c.loop-i.bufs.items ++ c.into_buffer-buf.result ∷ [] = grind (arith, common_steps) in
    record {
      ring = search rules;
      so = rw pushed (took_more home_in _ _ _ _ _ _ _ _ lt c.loop-i.invariant.so c.in-Some.ensures.some.0 c.in-Some.ensures.some.1 c.into_buffer-buf.ensures);
    }

pub returns-clause-took : goal.returns-clause-took
returns-clause-took g c = took_all home_in c.loop-i._i _ _ _ _ (search rules) c.loop-i.invariant.so

pub returns-clause-bufs : goal.returns-clause-bufs
returns-clause-bufs g c = took_bufs home_in c.loop-i._i _ _ _ _ (search rules) c.loop-i.invariant.so
