use Rattle.std.proofs.Common.{◌≡◌, ◌++◌, All, drop}
use Rattle.ix_playdef.specs.Placed.{placed}
use Rattle.ix_playdef.specs.Replies.{IsShort, stray_reply}
use Rattle.ix_places.proofs.replies.push_strays.Given as goal

abbrev pub invariant-loop-i : goal.invariant-loop-i
invariant-loop-i l = record {
  replies : l.replies.items ++ placed (stray_reply l.group.0) l.i (drop l.i l.strays) ≡ l.fn.replies.items ++ placed (stray_reply l.group.0) 0 l.strays;
  short : All IsShort l.fn.replies.items → All IsShort l.replies.items;
}
