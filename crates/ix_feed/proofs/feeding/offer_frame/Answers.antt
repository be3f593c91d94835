use Rattle.ix_wire.specs.declared.entry.Entry.TheVariants as wire
use Rattle.ix_feed.proofs.Following.{is_there}
use Rattle.ix_feed.proofs.Turned.{some_port, told_offer}
use Rattle.ix_feed.proofs.feeding.offer_frame.Goals as goal

pub frame-frame-requires : goal.frame-frame-requires
frame-frame-requires c = is_there (wire.Frame c.args.rec) c.args.nic.now c.args.replay.now c.requires.feed c.requires.next

pub fate_of-requires : goal.fate_of-requires
fate_of-requires c =
    told_offer _ _ _ _ _ c.offer-offer.ensures.answer (some_port c.args.nic.now.ports c.core-ring.result.0 c.core-ring.ensures.within) c.frame-frame.ensures.size
