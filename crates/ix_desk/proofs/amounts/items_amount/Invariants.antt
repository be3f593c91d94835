use Rattle.std.proofs.Common.{◌≡◌, ◌-◌, ◌^◌, min, sum_by, take}
use Rattle.ix_desk.proofs.amounts.items_amount.Given as goal

abbrev pub invariant-loop-item : goal.invariant-loop-item
invariant-loop-item g l = l.sum ≡ min (sum_by (g.M.Measure.amount l.measure) (take l.item-index l.items)) (2 ^ 32 - 1)
