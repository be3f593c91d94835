use Rattle.std.proofs.Common.{rules, ◌≡◌, ◌∷◌, ◌++◌, [], refl}
use Rattle.ix_ring.specs.Ends.{put_list}
use Rattle.ix_core.proofs.LinkLaws.{sends_more, sends_none}
use Rattle.ix_core.proofs.link.send.Goals as goal

pub loop-message-init : goal.loop-message-init
loop-message-init g c = record { same = search rules; sent = sends_none _ }

pub loop-message-preserved : goal.loop-message-preserved
loop-message-preserved g c =
    let put : put_list c.put.new.self ≡ put_list c.loop-message.link.put ++ c.in-Some.message ∷ [] = search rules in
    record {
      same = search rules;
      sent = sends_more _ _ _ c.in-Some.message c.pop_front.new.self.items c.loop-message.invariant.sent c.in-Some.ensures.items refl refl put refl;
    }
