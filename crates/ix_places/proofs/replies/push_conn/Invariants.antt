use Rattle.std.proofs.Common.{◌≡◌, ◌++◌, All, drop}
use Rattle.ix_playdef.specs.Placed.{placed}
use Rattle.ix_playdef.specs.Replies.{IsShort, by_opening, conn_replies, input_replies}
use Rattle.ix_places.proofs.replies.push_conn.Given as goal

abbrev pub invariant-loop-i : goal.invariant-loop-i
invariant-loop-i l = record {
  replies : l.replies.items ++ placed (input_replies by_opening l.local l.place.group.0 l.place.opening l.ends) l.i (drop l.i l.journal) ≡ l.fn.replies.items ++ conn_replies by_opening l.local l.place.group.0 l.place.opening l.conn;
  short : All IsShort l.fn.replies.items → All IsShort l.replies.items;
}
