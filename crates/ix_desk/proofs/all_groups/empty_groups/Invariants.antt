use Rattle.std.proofs.Common.{◌≡◌}
use Rattle.std.specs.Prelude.{replicate}
use Rattle.ix_desk.specs.Groups.{empty}
use Rattle.ix_desk.proofs.all_groups.empty_groups.Given as goal

abbrev pub invariant-loop-i : goal.invariant-loop-i
invariant-loop-i g l = l.groups.items ≡ replicate l._i empty
