use Rattle.std.proofs.Common.{◌<◌, ◌∙◌, [], length, ap, sym, subst, arith}
use Rattle.ix_reta.specs.Table.{Table}
use Rattle.ix_nic.specs.Cards.{CardView, AreOpen, core_at}
use Rattle.ix_spread.proofs.StillOpen.{spread_within, opened_count, opened_open}
use Rattle.ix_spread.proofs.tests.card.opened.Goals as goal

pub new-requires-2-clause-cores : goal.new-requires-2-clause-cores
new-requires-2-clause-cores c = λ group below.
    subst (λ (t : Table). (core_at t group).0 < length c.in_ok-ends.ends.items) (sym c.in_ok-table.ensures)
    (subst (λ n. (core_at (record { live = 3; turns = []; room = 1000 }) group).0 < n) (sym c.in_ok-ends.ensures.0) (spread_within 3 1000 group (omega arith)))

pub invariant_of-result : goal.invariant_of-result
invariant_of-result c = record {
  three = ap (λ (v : CardView). length v.ports) c.in_ok-nic.ensures ∙ opened_count c.in_ok-ends.ends.items ∙ c.in_ok-ends.ensures.0;
  unended = subst (λ (v : CardView). AreOpen v.ports) (sym c.in_ok-nic.ensures) (opened_open c.in_ok-ends.ends.items);
  room = omega (arith, ap (λ (v : CardView). v.table.room) c.in_ok-nic.ensures, ap (λ (t : Table). t.room) c.in_ok-table.ensures);
}
