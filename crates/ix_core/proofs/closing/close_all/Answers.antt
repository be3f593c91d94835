use Rattle.std.proofs.Common.{rules, ◌≡◌, ◌++◌, ◌∙◌, [], List, ap}
use Rattle.ix_mbuf.specs.Buffers.{Buffer}
use Rattle.ix_desk.specs.Pieces.{joined}
use Rattle.ix_core.specs.Homing.{core_returns}
use Rattle.ix_core.proofs.Closings.{closes_so, nothing_waits, numbers_ended}
use Rattle.ix_core.proofs.closing.close_all.Goals as goal

pub finish_all-requires : goal.finish_all-requires
finish_all-requires g c = nothing_waits _ _ _ c.requires c.in_ok-empty_cores.ensures.emptied

pub bring_all_home-requires-clause-order : goal.bring_all_home-requires-clause-order
bring_all_home-requires-clause-order g c = numbers_ended _ 512 _ _ _ c.requires c.in_ok-empty_cores.ensures.emptied c.in_ok-finish_all.ensures.each

pub returns : goal.returns
returns g c =
    let none : c.new-bufs.result.items ≡ [] = search rules in
    closes_so _ _ (λ f u bufs v so. g.met.G.GroupStack.finishes_weigh f u bufs v so) _ _ _ _ _ _ _ _ _ _ _ c.requires c.in_ok-empty_cores.ensures.emptied
    (c.in_ok-empty_cores.ensures.bufs ∙ ap (λ (l : List Buffer). l ++ joined core_returns c.args.cores.now) none)
    c.in_ok-recall_all.ensures.recalled c.new-groups.ensures.items c.in_ok-finish_all.ensures c.in_ok-bring_all_home.ensures c.in_ok-pools.ensures
