-- What turns of its own may make of each party.
use Rattle.std.specs.Prelude.{◌≡◌, ℕ, List, ◌++◌, drop, Bool, false}
use Rattle.ix_ring.specs.Ends.{put_list, taken, SamePutEnd, SameTakeEnd}
use Rattle.ix_run.specs.declared.actors.Turn.{Turn}
use Rattle.ix_run.specs.declared.actors.Turn.TheVariants.{Ended}
use Rattle.ix_relay.specs.declared.party.Sender.{Sender}
use Rattle.ix_relay.specs.declared.party.Receiver.{Receiver}
use Rattle.ix_relay.specs.declared.party.Party.{Party}
use Rattle.ix_relay.specs.declared.party.Party.TheVariants as party

-- what the sender has yet to put
abbrev pub to_put : Sender → List ℕ
to_put s = drop s.next s.items.items

-- turns of the sender: what it put and what it has yet to put are one list throughout
pub record SenderBecame (old new : Sender) : Type 0 where
  pub ring : SamePutEnd old.put new.put
  pub whole : put_list new.put ++ to_put new ≡ put_list old.put ++ to_put old

-- turns of the receiver: it got what it took, in order
pub record ReceiverBecame (old new : Receiver) : Type 0 where
  pub ring : SameTakeEnd old.take new.take
  pub items : List ℕ
  pub took : taken new.take ≡ taken old.take ++ items
  pub got : new.got.items ≡ old.got.items ++ items

abbrev pub Became : Party → Party → Type 0
Became (party.Sender x) (party.Sender y) = SenderBecame x y
Became (party.Receiver x) (party.Receiver y) = ReceiverBecame x y
Became x y = ⊥

abbrev pub IsEnded : Turn → Type 0
IsEnded (Ended n) = Unit {0}
IsEnded t = ⊥

abbrev pub has_failed : Party → Bool
has_failed (party.Sender x) = false
has_failed (party.Receiver x) = x.failed
