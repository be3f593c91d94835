use Rattle.std.proofs.Common.{◌≡◌, ◌++◌, All, drop}
use Rattle.ix_playdef.specs.Placed.{placed}
use Rattle.ix_playdef.specs.Replies.{IsShort, by_opening, opened_replies}
use Rattle.ix_places.proofs.replies.push_conns.Given as goal

abbrev pub invariant-loop-i : goal.invariant-loop-i
invariant-loop-i l = record {
  replies : l.replies.items ++ placed (opened_replies by_opening l.local l.group.0) l.i (drop l.i l.conns) ≡ l.fn.replies.items ++ placed (opened_replies by_opening l.local l.group.0) 0 l.conns;
  short : All IsShort l.fn.replies.items → All IsShort l.replies.items;
}
