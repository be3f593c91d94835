use Rattle.std.proofs.Common.{◌≡◌, ◌-◌, ◌^◌, min, sum_by, take}
use Rattle.ix_desk.specs.Groups.{early_waits}
use Rattle.ix_desk.proofs.amounts.early_amount.Given as goal

abbrev pub invariant-loop-here : goal.invariant-loop-here
invariant-loop-here g l = l.sum ≡ min (sum_by (g.M.Measure.amount l.measure) (early_waits (take l.here-index l.early))) (2 ^ 32 - 1)
