use Rattle.std.proofs.Common.{◌≡◌, length, take, drop}
use Rattle.ix_desk.specs.Steps.{leave, EachWorked, cut_leaves, CutWorked}
use Rattle.ix_desk.proofs.working.work_cut.Given as goal

abbrev pub invariant-loop-i : goal.invariant-loop-i
invariant-loop-i g l = record {
  len : length l.cut.items ≡ length l.initial.cut.items;
  each : EachWorked (cut_leaves g.U.Unit.counted) (CutWorked g.U.Unit.counted g.U.Unit.name g.U.Unit.stepped g.U.Unit.advanced l.env l.core.0) l.budget (take l.i l.initial.cut.items) (take l.i l.cut.items);
  left : l.left ≡ leave (cut_leaves g.U.Unit.counted) l.budget (take l.i l.initial.cut.items);
  rest : drop l.i l.cut.items ≡ drop l.i l.initial.cut.items;
}
