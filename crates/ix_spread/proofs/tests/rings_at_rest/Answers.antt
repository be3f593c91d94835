use Rattle.std.proofs.Common.{◌≡◌, ◌<◌, ◌∙◌, ◌∷◌, List, [], length, map, ap, sym, subst, arith}
use Rattle.std.proofs.lemmas.Grind.{common_steps}
use Rattle.ix_reta.specs.Table.{Table}
use Rattle.ix_nic.specs.declared.port.NicEnd.{NicEnd}
use Rattle.ix_nic.specs.Cards.{CardView, core_at, opened}
use Rattle.ix_spread.proofs.StillOpen.{spread_within, rests}
use Rattle.ix_spread.proofs.tests.rings_at_rest.Goals as goal

pub new-requires-2-clause-cores : goal.new-requires-2-clause-cores
new-requires-2-clause-cores g c = λ group below.
    let one : c.in_ok-ends-2.ends.items ≡ c.in_ok-ends.ends ∷ [] = grind (arith, common_steps) in
    subst (λ (ends : List NicEnd). (core_at c.in_ok-table.table group).0 < length ends) (sym one)
    (subst (λ (t : Table). (core_at t group).0 < 1) (sym c.in_ok-table.ensures) (spread_within 1 0 group (omega arith)))

pub settled-requires : goal.settled-requires
settled-requires g c =
    let one : c.in_ok-ends-2.ends.items ≡ c.in_ok-ends.ends ∷ [] = grind (arith, common_steps) in
    rests c.in_ok-ends.ends _ _ _ _ _ _ (ap (λ (v : CardView). v.ports) c.in_ok-nic.ensures ∙ ap (map opened) one) c.in_ok-ends.ensures.unused.0
    c.meet_ends.ensures.others.count c.meet_ends.ensures.met
