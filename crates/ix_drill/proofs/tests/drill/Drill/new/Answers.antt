use Rattle.std.proofs.Common.{◌≡◌, ◌<◌, ◌∙◌, [], ap, arith, length, sym, subst}
use Rattle.ix_reta.specs.Table.{Table}
use Rattle.ix_nic.specs.Cards.{CardView, core_at}
use Rattle.ix_drill.proofs.Starts.{opened_open, placed_new, spread_within}
use Rattle.ix_drill.proofs.tests.drill.Drill.new.Goals as goal

pub new-requires-2-clause-cores : goal.new-requires-2-clause-cores
new-requires-2-clause-cores c = λ group lt.
    let three : length c.in_ok-card.card.items ≡ 3 = c.in_ok-card.ensures.order.count ∙ c.in_ok-card.ensures.count in
    subst (λ (t : Table). (core_at t group).0 < length c.in_ok-card.card.items) (sym c.in_ok-table.ensures) (subst (λ n. (core_at (record { live = 3; turns = []; room = 10000 }) group).0 < n) (sym three) (spread_within 3 10000 group (omega arith)))

pub invariant_of-result : goal.invariant_of-result
invariant_of-result c =
    let ports = ap (λ (n : CardView). n.ports) c.in_ok-nic.ensures in
    let room : c.in_ok-nic.nic.table.room ≡ 10000 = ap (λ (n : CardView). n.table.room) c.in_ok-nic.ensures ∙ ap (λ (t : Table). t.room) c.in_ok-table.ensures in
    record {
      order = c.opening_is_in_order.ensures c.in_ok-nic.nic c.in_ok-card.card.items c.in_ok-card.ends.items c.in_ok-cores.cores.items ports c.in_ok-card.ensures.order c.in_ok-cores.ensures;
      placed = placed_new 2 c.in_ok-nic.nic c.in_ok-card.card.items c.in_ok-card.ends.items c.in_ok-cores.cores.items ports c.in_ok-card.ensures.order c.in_ok-card.ensures.fresh c.in_ok-cores.ensures;
      three = c.in_ok-cores.ensures.count ∙ c.in_ok-card.ensures.count;
      unended = opened_open c.in_ok-nic.nic c.in_ok-card.card.items ports;
      room = omega (arith, room);
    }
