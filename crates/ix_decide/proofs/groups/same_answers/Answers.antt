use Rattle.std.proofs.Common.{refl, arith}
use Rattle.std.proofs.lemmas.List.{ext_get_or}
use Rattle.ix_lines.specs.declared.types.ConnectLine.TheVariants as becomes
use Rattle.ix_decide.proofs.groups.same_answers.Goals as goal

pub returns : goal.returns
returns c = (
  λ e. ext_get_or becomes.Done c.args.printed.now c.args.answers.now c.loop-i.invariant.long
      (λ k lt. c.loop-i.invariant.each k becomes.Done (omega (arith, lt, c.loop-i.invariant.long, c.loop-i-test.false))),
  λ same. refl,
)
