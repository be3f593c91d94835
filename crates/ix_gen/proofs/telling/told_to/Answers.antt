use Rattle.std.proofs.Common.{◌+◌, ◌∙◌, ap, rules}
use Rattle.ix_gen.specs.Summary.{told_to, told_in, capped, total}
use Rattle.ix_gen.proofs.SummaryLaws.{loop_end, loop_new, loop_step}
use Rattle.ix_gen.proofs.telling.told_to.Goals as goal

pub loop-conn-preserved : goal.loop-conn-preserved
loop-conn-preserved c =
    let more = c.with_inputs-told.ensures ∙ ap (λ list. capped (c.loop-conn.told + total told_in list)) c.as_slice.ensures in (
      loop_step told_to c.args.conns.now c.loop-conn.conn-index c.loop-conn.told (told_to c.conn-item.result) c.with_inputs-told.result _ _ (search rules)
          (ap told_to c.conn-item.is) more c.loop-conn.invariant.0,
      loop_new c.with_inputs-told.result c.loop-conn.told (told_to c.conn-item.result) more,
    )

pub returns : goal.returns
returns c = loop_end told_to c.args.conns.now c.loop-conn.conn-index c.loop-conn.told _ (search rules) c.loop-conn.invariant.1 c.loop-conn.invariant.0
