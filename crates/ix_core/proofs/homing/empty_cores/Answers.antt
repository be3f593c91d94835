use Rattle.std.proofs.Common.{rules, ◌<◌, length, refl}
use Rattle.ix_core.specs.Homing.{HaveNoShips, CoreEmptied, core_returns}
use Rattle.ix_core.proofs.Homings.{gathered_all, gathered_more, gathered_none, holds_first, passed_all, read_self}
use Rattle.ix_core.proofs.homing.empty_cores.Goals as goal

pub loop-place-init : goal.loop-place-init
loop-place-init g c = gathered_none CoreEmptied core_returns _ _

pub empty_core-requires : goal.empty_core-requires
empty_core-requires g c =
    let lt : c.loop-place.place < length c.loop-place.cores = search rules in
    holds_first (λ k. HaveNoShips k.links.items) CoreEmptied c.loop-place.place _ _ _ lt (read_self c.loop-place.cores c.loop-place.place c.index-cores-place.result lt) c.loop-place.invariant.passed c.requires

pub loop-place-preserved : goal.loop-place-preserved
loop-place-preserved g c =
    let lt : c.loop-place.place < length c.loop-place.cores = search rules in
    gathered_more CoreEmptied core_returns c.loop-place.place _ _ _ _ _ _ _ _ lt (read_self c.loop-place.cores c.loop-place.place c.index-cores-place.result lt) refl c.in_ok-empty_core.ensures.emptied c.in_ok-empty_core.ensures.bufs
    c.loop-place.invariant

pub returns-clause-emptied : goal.returns-clause-emptied
returns-clause-emptied g c = passed_all CoreEmptied c.loop-place.place _ _ (search rules) c.loop-place.invariant.passed

pub returns-clause-bufs : goal.returns-clause-bufs
returns-clause-bufs g c = gathered_all CoreEmptied core_returns c.loop-place.place _ _ _ _ (search rules) c.loop-place.invariant
