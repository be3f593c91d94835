use Rattle.std.proofs.Common.{◌≡◌, [], true}
use Rattle.ix_ring.specs.Ends.{IsRing}
use Rattle.ix_relay.specs.Parties.{to_put, SenderBecame, ReceiverBecame}
use Rattle.ix_relay.proofs.through.finish.Given as goal

abbrev pub invariant-loop : goal.invariant-loop
invariant-loop g l = record {
  ring : IsRing l.sender.put l.receiver.take;
  sender : SenderBecame l.initial.sender l.sender;
  receiver : ReceiverBecame l.initial.receiver l.receiver;
  ended : l.ended ≡ true → to_put l.sender ≡ [];
}
