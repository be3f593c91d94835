use Rattle.std.proofs.Common.{refl, sym, true≢false, arith}
use Rattle.ix_playdef.specs.Order.{number_of}
use Rattle.ix_places.proofs.SetLaws.{named-all, named-fails, named-more}
use Rattle.ix_places.proofs.filed.are_named.Goals as goal

pub returns-then-number_of-numbers : goal.returns-then-number_of-numbers
returns-then-number_of-numbers c = (
  λ e. absurd (true≢false (sym e)),
  λ is.
      absurd
      (named-fails (number_of c.args.sorted.now) c.args.keys.now c.args.numbers.now c.loop-i.i c.number_of.result c.loop-i-test.true c.number_of.ensures.number
      (λ e. omega (arith, c.if-number_of-numbers.true, e)) is),
)

pub loop-i-preserved : goal.loop-i-preserved
loop-i-preserved c =
    named-more (number_of c.args.sorted.now) c.args.keys.now c.args.numbers.now c.loop-i.i c.number_of.result c.loop-i-test.true c.requires.long c.number_of.ensures.number
    (omega (arith, c.if-number_of-numbers.false)) c.loop-i.invariant

pub returns : goal.returns
returns c = (λ e. named-all (number_of c.args.sorted.now) c.args.keys.now c.args.numbers.now c.loop-i.i c.loop-i-test.false c.requires.long c.loop-i.invariant, λ is. refl)
