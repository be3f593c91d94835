-- The laws of `Became`.
use Rattle.std.proofs.Common.{◌++◌, ◌∙◌, rules, arith, append_assoc}
use Rattle.ix_relay.specs.declared.party.Sender.{Sender}
use Rattle.ix_relay.specs.declared.party.Receiver.{Receiver}
use Rattle.ix_relay.specs.declared.party.Party.{Party}
use Rattle.ix_relay.specs.declared.party.Party.TheVariants as party
use Rattle.ix_relay.specs.Parties.{SenderBecame, ReceiverBecame, Became}

pub SenderBecame-joins : (x y z : Sender) → SenderBecame x y → SenderBecame y z → SenderBecame x z
SenderBecame-joins x y z p q = record { ring = search rules; whole = q.whole ∙ p.whole }

pub ReceiverBecame-joins : (x y z : Receiver) → ReceiverBecame x y → ReceiverBecame y z → ReceiverBecame x z
ReceiverBecame-joins x y z p q = record {
  ring = search rules;
  items = p.items ++ q.items;
  took = grind (arith, append_assoc);
  got = grind (arith, append_assoc);
}

pub Became-stays : (x : Party) → Became x x
Became-stays (party.Sender x) = search rules
Became-stays (party.Receiver x) = search rules

pub Became-joins : (x y z : Party) → Became x y → Became y z → Became x z
Became-joins (party.Sender x) (party.Sender y) (party.Sender z) p q = SenderBecame-joins x y z p q
Became-joins (party.Receiver x) (party.Receiver y) (party.Receiver z) p q = ReceiverBecame-joins x y z p q
Became-joins (party.Sender x) (party.Receiver y) z p q = absurd p
Became-joins (party.Receiver x) (party.Sender y) z p q = absurd p
Became-joins (party.Sender x) (party.Sender y) (party.Receiver z) p q = absurd q
Became-joins (party.Receiver x) (party.Receiver y) (party.Sender z) p q = absurd q
