use Rattle.std.proofs.Common.{◌∙◌, ap, arith, List, ◌++◌, map}
use Rattle.ix_fits.specs.Cutting.{Due}
use Rattle.ix_fits.specs.Read.{alone}
use Rattle.ix_told.specs.Reading.{cycle_of}
use Rattle.ix_told.proofs.ReadingLaws.{cycles-end, rest-is}
use Rattle.ix_told.proofs.cutting.cutting_read.Goals as goal

pub returns : goal.returns
returns c =
    cycles-end c.args.conns.now c.args.entries.now c.loop-at.from c.loop-at.at c.loop-at.cycles.items c.push_alone.new.cycles.items (omega (arith, c.loop-at-test.false))
    (c.in_ok-push_alone.ensures ∙ ap (λ (ds : List Due). map cycle_of c.loop-at.cycles.items ++ map alone ds) (rest-is c.args.entries.now c.loop-at.from))
    ∙ c.loop-at.invariant.cycles
