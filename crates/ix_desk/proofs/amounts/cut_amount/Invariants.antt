use Rattle.std.proofs.Common.{◌≡◌, ◌-◌, ◌^◌, min, sum_by, take}
use Rattle.ix_desk.specs.Groups.{cut_waits}
use Rattle.ix_desk.proofs.amounts.cut_amount.Given as goal

abbrev pub invariant-loop-here : goal.invariant-loop-here
invariant-loop-here g l = l.sum ≡ min (sum_by (g.M.Measure.amount l.measure) (cut_waits (take l.here-index l.cut))) (2 ^ 32 - 1)
