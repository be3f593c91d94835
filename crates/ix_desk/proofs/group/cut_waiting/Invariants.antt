use Rattle.std.proofs.Common.{◌≡◌, ◌+◌, length, take}
use Rattle.ix_desk.specs.Groups.{cut_waits}
use Rattle.ix_desk.proofs.group.cut_waiting.Given as goal

abbrev pub invariant-loop-here : goal.invariant-loop-here
invariant-loop-here g l = l.left + length (cut_waits (take l.here-index l.cut)) ≡ l.fn.i
