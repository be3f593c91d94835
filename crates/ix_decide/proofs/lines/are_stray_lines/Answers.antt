use Rattle.std.proofs.Common.{refl, arith}
use Rattle.ix_decide.proofs.LineLaws.{stray-fails, strays-from, strays-long}
use Rattle.ix_decide.proofs.lines.are_stray_lines.Goals as goal

pub returns-then-strays-lines : goal.returns-then-strays-lines
returns-then-strays-lines c = (λ e. absurd (cc), λ are. absurd (c.if-strays-lines.true (strays-long c.args.strays.now c.args.lines.now are)))

pub returns-then-not-is_stray : goal.returns-then-not-is_stray
returns-then-not-is_stray c = (
  λ e. absurd (cc),
  λ are. absurd (stray-fails c.args.strays.now c.args.lines.now c.loop-i.i c.index-strays-i.result _ _ c.is_stray.result c.is_stray.ensures refl c.index-strays-i.is
      (omega (arith, c.loop-i-test.true)) c.if-not-is_stray.true are),
)

pub returns : goal.returns
returns c = (
  λ e. strays-from c.args.strays.now c.args.lines.now c.loop-i.invariant.long (λ k d f lt. c.loop-i.invariant.each k d f (omega (arith, lt, c.loop-i-test.false))),
  λ are. refl,
)
