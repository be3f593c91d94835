use Rattle.std.proofs.Common.{◌≡◌, ◌+◌, length, take}
use Rattle.ix_desk.specs.Pieces.{joined}
use Rattle.ix_desk.specs.Groups.{waits}
use Rattle.ix_desk.proofs.all_groups.groups_waiting.Given as goal

abbrev pub invariant-loop-here : goal.invariant-loop-here
invariant-loop-here g l = l.left + length (joined waits (take l.here-index l.groups)) ≡ l.fn.i
