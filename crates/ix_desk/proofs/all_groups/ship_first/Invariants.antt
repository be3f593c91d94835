use Rattle.std.proofs.Common.{◌≡◌, ℕ, ◌<◌, get_or}
use Rattle.std.specs.Prelude.{None}
use Rattle.ix_desk.specs.Groups.{done_of, empty}
use Rattle.ix_desk.proofs.all_groups.ship_first.Given as goal

abbrev pub invariant-loop-i : goal.invariant-loop-i
invariant-loop-i g l = record {
  same : l.groups.items ≡ l.initial.groups.items;
  none : (j : ℕ) → j < l.i → done_of (get_or l.groups.items j empty).cut ≡ None;
}
