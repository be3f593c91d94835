use Rattle.std.proofs.Common.{◌≡◌, length, map}
use Rattle.ix_playdef.specs.Replies.{Places}
use Rattle.ix_playdef.specs.declared.order.Reply.{Reply}
use Rattle.ix_places.specs.Told.{key_with, reply_with}
use Rattle.ix_places.proofs.SetLaws.{changed}
use Rattle.ix_places.proofs.filed.set_keys.Given as goal

abbrev pub invariant-loop-i : goal.invariant-loop-i
invariant-loop-i l = record {
  long : length l.replies.items ≡ length l.keys;
  set : (places : Places) → l.keys ≡ map (λ (x : Reply). key_with places x.key) l.fn.replies.items → l.replies.items ≡ changed (reply_with places) l.i l.fn.replies.items;
}
