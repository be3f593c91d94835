use Rattle.std.proofs.Common.{◌≡◌, ◌≤◌, ◌∙◌, arith, length, sym}
use Rattle.ix_nic.specs.Cards.{all_waiting}
use Rattle.ix_drill.proofs.Done.{can_settle, open_settled, placed_settled}
use Rattle.ix_drill.proofs.Kept.{carried, placed_learned, placed_still, same_cores}
use Rattle.ix_drill.proofs.tests.quiet.settle_quiet.Goals as goal

pub meet_all-requires : goal.meet_all-requires
meet_all-requires c = c.order_stays.ensures _ _ _ _ c.requires.order (carried _ _ _ c.retry.ensures.rings) (same_cores _)

pub settle-requires : goal.settle-requires
settle-requires c =
    let none : all_waiting c.retry.new.self.ports ≡ 0 = omega (arith, c.retry.ensures.waiting, c.if-retry-gt0.false) in
    let placed = placed_still c.args.nic.now c.retry.new.self _ _ c.requires.placed (carried _ _ _ c.retry.ensures.rings) (same_cores _) in
    can_settle _ _ _ c.meet_all.ensures.order c.meet_all.ensures.told (placed_learned c.retry.new.self c.meet_all.new.nic _ _ placed c.meet_all.ensures.card c.meet_all.ensures.cores) (c.meet_all.ensures.cores.count ∙ c.requires.three) none
    c.meet_all.ensures.card (sym c.are_busy.ensures ∙ c.if-are_busy.false) (c.few_are_posted.ensures c.if-not-few_are_posted.false)

pub returns : goal.returns
returns c =
    let s = c.in_ok-report.ensures.settled in
    let three : length c.meet_all.new.cores ≡ 3 = c.meet_all.ensures.cores.count ∙ c.requires.three in
    let some : 1 ≤ length c.meet_all.new.cores = omega (arith, three) in
    record {
      order = s.order;
      placed = placed_settled c.meet_all.new.nic c.settle.new.nic _ _ s.count s.each;
      three = s.count ∙ three;
      unended = open_settled c.meet_all.new.nic c.settle.new.nic _ _ some (s.ports ∙ c.meet_all.ensures.order.count) s.each;
      table = s.table ∙ c.meet_all.ensures.card.table ∙ c.retry.ensures.table;
    }
