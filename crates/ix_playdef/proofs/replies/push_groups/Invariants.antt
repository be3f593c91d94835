use Rattle.std.proofs.Common.{◌≡◌, ◌++◌, All, drop}
use Rattle.ix_playdef.specs.Placed.{placed}
use Rattle.ix_playdef.specs.Replies.{IsShort, all_replies, by_opening, group_replies}
use Rattle.ix_playdef.proofs.replies.push_groups.Given as goal

abbrev pub invariant-loop-i : goal.invariant-loop-i
invariant-loop-i l = record {
  replies : l.replies.items ++ placed (group_replies by_opening l.local) l.i (drop l.i l.records) ≡ l.fn.replies.items ++ all_replies by_opening l.local l.records;
  short : All IsShort l.fn.replies.items → All IsShort l.replies.items;
}
