use Rattle.ix_decide.proofs.LineLaws.{lines-fit}
use Rattle.ix_decide.proofs.lines.bounds_of.Goals as goal

pub returns-clause-within : goal.returns-clause-within
returns-clause-within c = lines-fit c.args.group.0 c.count_before-from.result c.count_of.result c.args.conns.now c.count_before-from.ensures c.count_of.ensures
