use Rattle.std.proofs.Common.{[], arith, refl, length-append}
use Rattle.ix_reta.specs.Table.{core_from, tenure_of}
use Rattle.ix_reta.proofs.TurnLaws.{RowsBelow-more}
use Rattle.ix_reta.proofs.table.opening_rows.Goals as goal

pub loop-group-preserved : goal.loop-group-preserved
unfolding core_from tenure_of
loop-group-preserved c =
    rw c.in_ok-push.ensures.items
    (record {
      count = simp length-append (omega (arith, c.loop-group.invariant.count));
      each = RowsBelow-more c.args.live [] c.loop-group.rows.items _ c.loop-group.group c.loop-group.invariant.count refl c.loop-group.invariant.each;
    })
