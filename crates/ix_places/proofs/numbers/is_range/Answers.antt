use Rattle.std.proofs.Common.{refl, sym, true≢false, arith}
use Rattle.ix_places.proofs.NumberLaws.{range-all, range-fails, range-more, range-short}
use Rattle.ix_places.proofs.numbers.is_range.Goals as goal

pub returns-then-numbers-count : goal.returns-then-numbers-count
returns-then-numbers-count c = (λ e. absurd (true≢false (sym e)), λ is. absurd (range-short c.args.numbers.now c.args.count (λ e. omega (arith, c.if-numbers-count.true, e)) is))

pub returns-then-number-i : goal.returns-then-number-i
returns-then-number-i c = (λ e. absurd (true≢false (sym e)), λ is. absurd (range-fails c.args.numbers.now c.loop-i.i c.args.count c.loop-i-test.true (λ e. omega (arith, c.if-number-i.true, e)) is))

pub loop-i-preserved : goal.loop-i-preserved
loop-i-preserved c = range-more c.args.numbers.now c.loop-i.i c.args.count c.loop-i-test.true (omega (arith, c.if-numbers-count.false)) (omega (arith, c.if-number-i.false)) c.loop-i.invariant

pub returns : goal.returns
returns c = (λ e. range-all c.args.numbers.now c.loop-i.i c.args.count c.loop-i-test.false (omega (arith, c.if-numbers-count.false)) c.loop-i.invariant, λ is. refl)
