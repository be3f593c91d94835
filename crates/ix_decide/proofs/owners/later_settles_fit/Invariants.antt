use Rattle.std.proofs.Common.{◌≡◌, ◌+◌, ◌≤◌}
use Rattle.ix_decide.specs.Points.{played, sheet_in}
use Rattle.ix_decide.specs.Settles.{settles_from}
use Rattle.ix_decide.proofs.owners.later_settles_fit.Given as goal

abbrev pub invariant-loop-w : goal.invariant-loop-w
invariant-loop-w l = record {
  from : l.last.from ≤ l.w;
  next : l.last.next ≤ l.w + 1;
  fit : settles_from (played l.play) (sheet_in l.play).settles l.last.outs.items l.last.from l.last.next l.w
      ≡ settles_from (played l.play) (sheet_in l.play).settles l.fn.outs.items 0 1 0;
}
