use Rattle.std.proofs.Common.{rules, ◌≡◌}
use Rattle.ix_nic.specs.Cards.{core_at}
use Rattle.ix_engine.proofs.Homes.{home_elsewhere, home_here}
use Rattle.ix_engine.proofs.opening.add_home.Goals as goal

-- src/opening.rt:32:9
pub returns-then-core : goal.returns-then-core
returns-then-core c = home_elsewhere c.args.table.now c.args.core.0 c.args.group.0 c.args.homes.now.items c.requires.homes (search rules)

-- src/opening.rt:19:1
pub returns : goal.returns
returns c =
    let same : (core_at c.args.table.now c.args.group.0).0 ≡ c.args.core.0 = search rules in
    search (rules, home_here c.args.table.now c.args.core.0 c.args.group c.args.homes.now.items c.requires.homes same)
