use Rattle.std.proofs.Common.{◌≡◌, ◌<◌, ◌%◌, ℕ, [], length, rules, ap, subst, sym, ◌∙◌, arith}
use Rattle.ix_base.specs.declared.id.CoreId.{CoreId}
use Rattle.ix_nic.specs.Cards.{core_at}
use Rattle.ix_reta.specs.Table.{Table}
use Rattle.ix_feed.proofs.Opening.{no_turns}
use Rattle.ix_feed.proofs.tests.card.Goals as goal

of_two : (t : Table) (room group : ℕ) → t ≡ record { live = 2; turns = []; room = room } → (core_at t group).0 < 2
of_two t room group is =
    let core : (core_at t group).0 ≡ group % 128 % 2 = ap (λ (u : Table). (core_at u group).0) is ∙ ap (λ (c : CoreId). c.0) (no_turns 2 group) in omega (arith, core)

pub new-requires-2-clause-cores : goal.new-requires-2-clause-cores
new-requires-2-clause-cores c = λ group lt.
    let two : length c.in_ok-ends.ends.items ≡ 2 = search rules in
    subst (λ n. (core_at c.in_ok-table.table group).0 < n) (sym two) (of_two c.in_ok-table.table c.args.turns group c.in_ok-table.ensures)
