use Rattle.std.proofs.Common.{arith, refl, subst, sym}
use Rattle.ix_steer.specs.Steering.{group_of_frame, group_of_frame-below}
use Rattle.ix_nic.specs.Cards.{CardView, AreOpen}
use Rattle.ix_nic.proofs.CardLemmas.{no_item, card_kept, ring_within, still_open, is_retried, offered_is, too_long}
use Rattle.ix_nic.proofs.Carried.{offer_carried}
use Rattle.ix_nic.proofs.nic.Nic.offer.Goals as goal

pub carry-requires : goal.carry-requires
carry-requires c = no_item _

pub invariant_of-self : goal.invariant_of-self
invariant_of-self c = card_kept _ _ _ c.self.invariant c.carry.ensures.count

pub returns-then-frame-gt-BUFFER_BYTES-clause-answer : goal.returns-then-frame-gt-BUFFER_BYTES-clause-answer
returns-then-frame-gt-BUFFER_BYTES-clause-answer c =
    rw (← c.self.view_is)
    (too_long c.args.w c.args.frame.now _ c.self.inside.reta c.self.inside.ports.items c.carry.new.ports.items c.self.invariant c.carry.ensures refl c.if-frame-gt-BUFFER_BYTES.true)

pub returns-then-frame-gt-BUFFER_BYTES-clause-entry : goal.returns-then-frame-gt-BUFFER_BYTES-clause-entry
returns-then-frame-gt-BUFFER_BYTES-clause-entry c =
    rw (← c.self.view_is)
    (offer_carried c.args.w c.args.frame.now _ _ _ (c.self.invariant.within (group_of_frame c.args.frame.now) (group_of_frame-below c.args.frame.now))
    (too_long c.args.w c.args.frame.now _ c.self.inside.reta c.self.inside.ports.items c.carry.new.ports.items c.self.invariant c.carry.ensures refl c.if-frame-gt-BUFFER_BYTES.true))

pub core-ring-requires : goal.core-ring-requires
core-ring-requires c = c.frame_group-group.ensures.below

pub offer_to-requires-clause-ring : goal.offer_to-requires-clause-ring
offer_to-requires-clause-ring c =
    ring_within c.self.inside.reta c.self.inside.ports.items c.carry.new.ports.items c.frame_group-group.result.0 c.core-ring.result c.self.invariant
    c.frame_group-group.ensures.below c.core-ring.ensures c.carry.ensures

pub offer_to-requires-clause-open : goal.offer_to-requires-clause-open
offer_to-requires-clause-open c =
    still_open c.self.inside.ports.items c.carry.new.ports.items c.core-ring.result.0 (subst (λ (v : CardView). AreOpen v.ports) (sym c.self.view_is) c.requires) c.carry.ensures
    (ring_within c.self.inside.reta c.self.inside.ports.items c.carry.new.ports.items c.frame_group-group.result.0 c.core-ring.result c.self.invariant
    c.frame_group-group.ensures.below c.core-ring.ensures c.carry.ensures)

pub offer_to-requires-clause-retried : goal.offer_to-requires-clause-retried
offer_to-requires-clause-retried c =
    is_retried c.self.inside.ports.items c.carry.new.ports.items c.core-ring.result.0 c.carry.ensures
    (ring_within c.self.inside.reta c.self.inside.ports.items c.carry.new.ports.items c.frame_group-group.result.0 c.core-ring.result c.self.invariant
    c.frame_group-group.ensures.below c.core-ring.ensures c.carry.ensures)

pub offer_to-requires-clause-small : goal.offer_to-requires-clause-small
offer_to-requires-clause-small c = omega (arith, c.if-frame-gt-BUFFER_BYTES.false)

pub invariant_of-self-2 : goal.invariant_of-self-2
invariant_of-self-2 c = card_kept _ _ _ (card_kept _ _ _ c.self.invariant c.carry.ensures.count) c.offer_to.ensures.count

pub returns-clause-answer : goal.returns-clause-answer
returns-clause-answer c =
    rw (← c.self.view_is)
    (offered_is c.args.w c.args.frame.now c.offer_to.result c.self.inside.reta c.self.inside.ports.items c.carry.new.ports.items c.offer_to.new.ports.items
    c.frame_group-group.result.0 c.core-ring.result c.carry.ensures c.frame_group-group.ensures.group c.core-ring.ensures
    (ring_within c.self.inside.reta c.self.inside.ports.items c.carry.new.ports.items c.frame_group-group.result.0 c.core-ring.result c.self.invariant
    c.frame_group-group.ensures.below c.core-ring.ensures c.carry.ensures) c.offer_to.ensures.count c.offer_to.ensures.others c.offer_to.ensures.answer)

pub returns-clause-entry : goal.returns-clause-entry
returns-clause-entry c =
    rw (← c.self.view_is)
    (offer_carried c.args.w c.args.frame.now c.offer_to.result _ _ (c.self.invariant.within (group_of_frame c.args.frame.now) (group_of_frame-below c.args.frame.now))
    (offered_is c.args.w c.args.frame.now c.offer_to.result c.self.inside.reta c.self.inside.ports.items c.carry.new.ports.items c.offer_to.new.ports.items
    c.frame_group-group.result.0 c.core-ring.result c.carry.ensures c.frame_group-group.ensures.group c.core-ring.ensures
    (ring_within c.self.inside.reta c.self.inside.ports.items c.carry.new.ports.items c.frame_group-group.result.0 c.core-ring.result c.self.invariant
    c.frame_group-group.ensures.below c.core-ring.ensures c.carry.ensures) c.offer_to.ensures.count c.offer_to.ensures.others c.offer_to.ensures.answer))
