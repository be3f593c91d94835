use Rattle.std.proofs.Common.{◌≡◌, ◌++◌, All, drop}
use Rattle.ix_groupdef.specs.Journal.{seen_entry, seen_input}
use Rattle.ix_playdef.specs.Placed.{placed}
use Rattle.ix_playdef.specs.Replies.{IsShort, by_opening, input_replies, key_at, reply_of}
use Rattle.ix_places.proofs.replies.push_input.Given as goal

abbrev pub invariant-loop-i : goal.invariant-loop-i
invariant-loop-i l = record {
  replies : l.replies.items ++ placed (λ output o. reply_of l.local (key_at by_opening l.place.group.0 l.place.opening l.at (seen_input l.view.input) l.end output) o) l.i (drop l.i l.outputs) ≡ l.fn.replies.items ++ input_replies by_opening l.local l.place.group.0 l.place.opening l.ends l.at (seen_entry l.view);
  short : All IsShort l.fn.replies.items → All IsShort l.replies.items;
}
