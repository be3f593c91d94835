use Rattle.std.proofs.Common.{rules, ◌≡◌, ◌++◌, ◌∙◌, [], List, ap}
use Rattle.ix_mbuf.specs.Buffers.{Buffer}
use Rattle.ix_desk.specs.Pieces.{joined}
use Rattle.ix_core.specs.Homing.{core_returns}
use Rattle.ix_core.proofs.Settlings.{at_rest, numbers_so, resting_so, settles_so}
use Rattle.ix_core.proofs.settling.settle_all.Goals as goal

pub bring_all_home-requires-clause-order : goal.bring_all_home-requires-clause-order
bring_all_home-requires-clause-order g c = numbers_so _ _ _ c.requires c.in_ok-empty_cores.ensures.emptied

pub renew_all-requires : goal.renew_all-requires
renew_all-requires g c = resting_so _ _ _ _ _ c.requires c.in_ok-empty_cores.ensures.emptied c.in_ok-bring_all_home.ensures

pub settled-requires : goal.settled-requires
settled-requires g c =
    at_rest _ _ _ _ _ c.requires (c.in_ok-bring_all_home.ensures.count ∙ c.in_ok-empty_cores.ensures.emptied.count) c.in_ok-rings.ensures.renewed

pub returns : goal.returns
returns g c =
    let none : c.new-bufs.result.items ≡ [] = search rules in
    let homes = rw c.as_slice.ensures.value at c.in_ok-homes.ensures in
    settles_so _ _ _ _ _ _ _ _ _ _ c.requires c.in_ok-empty_cores.ensures.emptied
    (c.in_ok-empty_cores.ensures.bufs ∙ ap (λ (l : List Buffer). l ++ joined core_returns c.args.cores.now) none)
    c.in_ok-bring_all_home.ensures c.in_ok-rings.ensures.renewed c.in_ok-rings.ensures.counts homes c.settled.ensures.table c.settled.ensures.rings
