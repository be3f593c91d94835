use Rattle.std.proofs.Common.{ap, arith, rules}
use Rattle.ix_gen.specs.Summary.{taken_of, total}
use Rattle.ix_gen.proofs.SummaryLaws.{capped_start, loop_end, loop_new, loop_step}
use Rattle.ix_gen.proofs.telling.taken_of.Goals as goal

pub loop-conn-init : goal.loop-conn-init
loop-conn-init c = (capped_start (total taken_of c.args.conns.now), omega arith)

pub loop-conn-preserved : goal.loop-conn-preserved
loop-conn-preserved c = (
  loop_step taken_of c.args.conns.now c.loop-conn.conn-index c.loop-conn.taken c.conn-item.result.taken c.capped_sum-taken.result _ _ (search rules) (ap taken_of c.conn-item.is) c.capped_sum-taken.ensures c.loop-conn.invariant.0,
  loop_new c.capped_sum-taken.result c.loop-conn.taken c.conn-item.result.taken c.capped_sum-taken.ensures,
)

pub returns : goal.returns
returns c = loop_end taken_of c.args.conns.now c.loop-conn.conn-index c.loop-conn.taken _ (search rules) c.loop-conn.invariant.1 c.loop-conn.invariant.0
