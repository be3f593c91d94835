use Rattle.std.proofs.Common.{rules, ◌≡◌, ◌∷◌, true}
use Rattle.ix_core.specs.Items.{item_fits}
use Rattle.ix_core.proofs.Deals.{deals-none, deals-one}
use Rattle.ix_core.proofs.dealing.deal_items.Goals as goal

pub loop-item-preserved : goal.loop-item-preserved
loop-item-preserved g c =
    let fit : item_fits c.loop-item.desks c.in-Some.item ≡ true = search rules in
    let next : c.loop-item.came.items ≡ c.in-Some.item ∷ c.pop_front.new.self.items = search rules in
    deals-one _ _ _ _ _ _ _ _ _ _ _ _ c.in-Some.item c.loop-item.invariant next fit c.in_ok-deal_item.ensures

pub loop-item-init : goal.loop-item-init
loop-item-init g c = deals-none _ _ _ _ _ _ _ _
