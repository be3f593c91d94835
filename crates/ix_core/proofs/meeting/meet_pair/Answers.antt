use Rattle.std.proofs.Common.{◌<◌, ap, arith, length, length-append}
use Rattle.ix_core.proofs.LinkLaws.{get_any}
use Rattle.ix_core.proofs.Meetings.{pair_linked, pair_lower, pair_meets, pair_upper}
use Rattle.ix_core.proofs.meeting.meet_pair.Goals as goal

pub meet_cores-requires-clause-lower : goal.meet_cores-requires-clause-lower
meet_cores-requires-clause-lower g c =
    let whole = c.split_at_mut-before.ensures.value in
    let len = c.split_at_mut-before.ensures.front_len in
    let first : c.args.a < length c.split_at_mut-before.result.0.now = omega (arith, len, c.requires.order) in
    pair_lower _ _ _ _ _ _ whole len c.requires.order c.requires.within (get_any _ _ c.index-before-a.result _ first) c.requires.meshed

pub meet_cores-requires-clause-upper : goal.meet_cores-requires-clause-upper
meet_cores-requires-clause-upper g c =
    let whole = c.split_at_mut-before.ensures.value in
    let len = c.split_at_mut-before.ensures.front_len in
    let second : 0 < length c.split_at_mut-before.result.1.now =
    omega (arith, ap length whole, length-append c.split_at_mut-before.result.0.now c.split_at_mut-before.result.1.now, len, c.requires.within) in
    pair_upper _ _ _ _ _ _ whole len c.requires.order c.requires.within (get_any _ _ c.index-after-0.result _ second) c.requires.meshed

pub meet_cores-requires-clause-linked : goal.meet_cores-requires-clause-linked
meet_cores-requires-clause-linked g c =
    let whole = c.split_at_mut-before.ensures.value in
    let len = c.split_at_mut-before.ensures.front_len in
    let first : c.args.a < length c.split_at_mut-before.result.0.now = omega (arith, len, c.requires.order) in
    let second : 0 < length c.split_at_mut-before.result.1.now =
    omega (arith, ap length whole, length-append c.split_at_mut-before.result.0.now c.split_at_mut-before.result.1.now, len, c.requires.within) in
    pair_linked _ _ _ _ _ _ _ whole len c.requires.order c.requires.within (get_any _ _ c.index-before-a.result _ first) (get_any _ _ c.index-after-0.result _ second) c.requires.meshed

pub returns : goal.returns
returns g c =
    let whole = c.split_at_mut-before.ensures.value in
    let len = c.split_at_mut-before.ensures.front_len in
    let first : c.args.a < length c.split_at_mut-before.result.0.now = omega (arith, len, c.requires.order) in
    let second : 0 < length c.split_at_mut-before.result.1.now =
    omega (arith, ap length whole, length-append c.split_at_mut-before.result.0.now c.split_at_mut-before.result.1.now, len, c.requires.within) in
    pair_meets _ _ _ _ _ _ _ _ _ whole len c.requires.order c.requires.within (get_any _ _ c.index-before-a.result _ first) (get_any _ _ c.index-after-0.result _ second)
    c.meet_cores.ensures.lower c.meet_cores.ensures.upper c.meet_cores.ensures.told
