use Rattle.std.proofs.Common.{◌≡◌, ◌-◌, ◌^◌, min, sum_by, take}
use Rattle.ix_desk.specs.Pieces.{joined}
use Rattle.ix_desk.specs.Groups.{waits}
use Rattle.ix_desk.proofs.amounts.groups_amount.Given as goal

abbrev pub invariant-loop-here : goal.invariant-loop-here
invariant-loop-here g l = l.sum ≡ min (sum_by (g.M.Measure.amount l.measure) (joined waits (take l.here-index l.groups))) (2 ^ 32 - 1)
