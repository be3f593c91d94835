use Rattle.std.proofs.Common.{sym, ap, ◌∙◌, arith}
use Rattle.std.specs.List.{list_all}
use Rattle.ix_told.specs.Reading.{is_cycle_alone}
use Rattle.ix_told.proofs.ReadingLaws.{fits-end, rest-is}
use Rattle.ix_told.proofs.cutting.fits_read.Goals as goal

pub returns : goal.returns
returns c =
    c.all_alone.ensures
    ∙ ap (list_all (is_cycle_alone c.args.batch)) (rest-is c.args.entries.now c.loop-at.from)
    ∙ sym (fits-end c.args.batch c.args.conns.now c.args.entries.now c.loop-at.from c.loop-at.at (omega (arith, c.loop-at-test.false)))
    ∙ c.loop-at.invariant.fits
