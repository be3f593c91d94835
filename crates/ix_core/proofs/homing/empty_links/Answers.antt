use Rattle.std.proofs.Common.{rules, ◌<◌, length, refl}
use Rattle.ix_core.specs.Homing.{HasNoShips, LinkEmptied, link_returns}
use Rattle.ix_core.proofs.Homings.{gathered_all, gathered_more, gathered_none, holds_first, passed_all}
use Rattle.ix_core.proofs.homing.empty_links.Goals as goal

pub loop-place-init : goal.loop-place-init
loop-place-init g c = gathered_none LinkEmptied link_returns _ _

pub empty_link-requires : goal.empty_link-requires
empty_link-requires g c =
    let lt : c.loop-place.place < length c.loop-place.links.items = search rules in
    holds_first (λ l. HasNoShips l) LinkEmptied c.loop-place.place _ _ _ lt c.index_mut-link.ensures.value c.loop-place.invariant.passed c.requires

pub loop-place-preserved : goal.loop-place-preserved
loop-place-preserved g c =
    let lt : c.loop-place.place < length c.loop-place.links.items = search rules in
    gathered_more LinkEmptied link_returns c.loop-place.place _ _ _ _ _ _ _ _ lt c.index_mut-link.ensures.value refl c.in_ok-empty_link.ensures.emptied c.in_ok-empty_link.ensures.bufs
    c.loop-place.invariant

pub returns-clause-emptied : goal.returns-clause-emptied
returns-clause-emptied g c = passed_all LinkEmptied c.loop-place.place _ _ (search rules) c.loop-place.invariant.passed

pub returns-clause-bufs : goal.returns-clause-bufs
returns-clause-bufs g c = gathered_all LinkEmptied link_returns c.loop-place.place _ _ _ _ (search rules) c.loop-place.invariant
