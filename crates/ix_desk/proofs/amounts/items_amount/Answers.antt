use Rattle.std.proofs.Common.{rules}
use Rattle.ix_desk.proofs.Adding.{amount-item}
use Rattle.ix_desk.proofs.amounts.items_amount.Goals as goal

pub loop-item-preserved : goal.loop-item-preserved
loop-item-preserved g c = amount-item _ _ c.args.items.now c.loop-item.item-index _ _ _ _ (search rules) c.item-item.is c.loop-item.invariant c.of-one.ensures c.saturating_add-sum.ensures
