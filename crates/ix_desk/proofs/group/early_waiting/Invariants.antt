use Rattle.std.proofs.Common.{◌≡◌, ◌+◌, length, take}
use Rattle.ix_desk.specs.Groups.{early_waits}
use Rattle.ix_desk.proofs.group.early_waiting.Given as goal

abbrev pub invariant-loop-here : goal.invariant-loop-here
invariant-loop-here g l = l.left + length (early_waits (take l.here-index l.early)) ≡ l.fn.i
