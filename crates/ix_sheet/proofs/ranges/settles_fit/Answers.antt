use Rattle.std.proofs.Common.{arith, subst}
use Rattle.std.proofs.lemmas.List.{take_all}
use Rattle.std.proofs.lemmas.List.Elements.{All-more}
use Rattle.std.specs.Prelude.{All}
use Rattle.ix_sheet.specs.Ranges.{FitsSettle}
use Rattle.ix_sheet.proofs.ranges.settles_fit.Goals as goal

pub loop-settle-preserved : goal.loop-settle-preserved
loop-settle-preserved c =
    All-more FitsSettle c.args.settles.now c.loop-settle.settle-index c.settle-item.result (omega arith) c.loop-settle.invariant (subst FitsSettle c.settle-item.is c.settle_fits.ensures)

pub returns : goal.returns
returns c = subst (All FitsSettle) (take_all c.loop-settle.settle-index c.args.settles.now (omega arith)) c.loop-settle.invariant
