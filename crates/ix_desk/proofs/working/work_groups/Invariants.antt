use Rattle.std.proofs.Common.{◌≡◌, length, take, drop}
use Rattle.ix_desk.specs.Steps.{leave, EachWorked, group_leaves, GroupWorked}
use Rattle.ix_desk.proofs.working.work_groups.Given as goal

abbrev pub invariant-loop-i : goal.invariant-loop-i
invariant-loop-i g l = record {
  len : length l.groups.items ≡ length l.initial.groups.items;
  each : EachWorked (group_leaves g.U.Unit.counted) (GroupWorked g.U.Unit.counted g.U.Unit.name g.U.Unit.stepped g.U.Unit.advanced l.env l.core.0) l.budget (take l.i l.initial.groups.items) (take l.i l.groups.items);
  left : l.left ≡ leave (group_leaves g.U.Unit.counted) l.budget (take l.i l.initial.groups.items);
  rest : drop l.i l.groups.items ≡ drop l.i l.initial.groups.items;
}
