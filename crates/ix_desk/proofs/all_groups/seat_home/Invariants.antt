use Rattle.std.proofs.Common.{◌≡◌, ℕ, ◌<◌, List, ◌++◌, length, get_or, vec_len}
use Rattle.std.specs.Prelude.{All}
use Rattle.ix_base.specs.declared.id.GroupId.{GroupId}
use Rattle.ix_desk.specs.Groups.{empty}
use Rattle.ix_desk.specs.Desks.{opened}
use Rattle.ix_desk.proofs.all_groups.seat_home.Given as goal

abbrev pub invariant-loop-g : goal.invariant-loop-g
invariant-loop-g g l = record {
  len : length l.groups.items ≡ length l.fn.groups.items;
  within : All (λ h. h.0.0 < length l.groups.items) l.home.items;
  rest : List (GroupId × g.row.U.Denot);
  whole : l.home.items ++ rest ≡ l.fn.home.items;
  opened : (j : ℕ) → get_or l.groups.items j empty ≡ opened rest j;
}

abbrev pub decreases-loop-g : goal.decreases-loop-g
decreases-loop-g g l = vec_len l.home
