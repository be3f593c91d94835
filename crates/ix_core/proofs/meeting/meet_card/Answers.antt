use Rattle.std.proofs.Common.{◌<◌, length, refl, arith}
use Rattle.ix_core.proofs.LinkLaws.{get_any}
use Rattle.ix_core.proofs.Meetings.{card_more, card_none, in_order_on, number_at, port_at, within_at}
use Rattle.ix_core.proofs.meeting.meet_card.Goals as goal

pub loop-c-init : goal.loop-c-init
loop-c-init g c = card_none _ _

pub meet_port-requires-clause-within : goal.meet_port-requires-clause-within
meet_port-requires-clause-within g c =
    let lt : c.loop-c.c < length c.loop-c.cores = omega (arith, c.loop-c.invariant.cores.count) in
    let order = in_order_on _ _ _ _ c.requires c.loop-c.invariant.card c.loop-c.invariant.cores in
    within_at _ _ _ _ order lt (get_any _ _ c.index-cores-c.result _ lt)

pub meet_port-requires-clause-port : goal.meet_port-requires-clause-port
meet_port-requires-clause-port g c =
    let lt : c.loop-c.c < length c.loop-c.cores = omega (arith, c.loop-c.invariant.cores.count) in
    let order = in_order_on _ _ _ _ c.requires c.loop-c.invariant.card c.loop-c.invariant.cores in
    port_at _ _ _ _ order lt (get_any _ _ c.index-cores-c.result _ lt)

pub loop-c-preserved : goal.loop-c-preserved
loop-c-preserved g c =
    let lt : c.loop-c.c < length c.loop-c.cores = omega (arith, c.loop-c.invariant.cores.count) in
    let order = in_order_on _ _ _ _ c.requires c.loop-c.invariant.card c.loop-c.invariant.cores in
    card_more _ _ _ _ _ _ _ _ _ lt (get_any _ _ c.index-cores-c.result _ lt) refl (number_at _ _ _ _ order lt (get_any _ _ c.index-cores-c.result _ lt)) c.loop-c.invariant c.meet_port.ensures.others c.meet_port.ensures.met
