use Rattle.std.proofs.Common.{rules}
use Rattle.ix_engine.proofs.Cores.{at_opening}
use Rattle.ix_engine.proofs.opening.open.Goals as goal

-- src/opening.rt:101:15
pub new-requires-2-clause-cores : goal.new-requires-2-clause-cores
new-requires-2-clause-cores c = λ group lt.
    let below = at_opening c.in_ok-table.table c.args.conf.now.live c.args.turns group (search rules) (search rules) in
    search (rules, below)
