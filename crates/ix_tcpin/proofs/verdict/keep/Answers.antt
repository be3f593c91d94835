use Rattle.std.proofs.Common.{List, [], ◌∷◌, ◌++◌, ap, sym, ◌∙◌, append_assoc}
use Rattle.ix_tcpin.specs.declared.verdict.HeldUse.{HeldUse}
use Rattle.ix_tcpin.specs.declared.verdict.HeldUse.TheVariants as uses
use Rattle.ix_tcpin.proofs.HeldLemmas.{keep_more}
use Rattle.ix_tcpin.proofs.verdict.keep.Goals as goal

pub loop-head-preserved : goal.loop-head-preserved
loop-head-preserved c =
    c.push.ensures.items ∙ ap (λ (us : List HeldUse). us ++ uses.Keep ∷ []) c.loop-head.invariant ∙ append_assoc c.args.uses.now.items _ _ ∙ ap (λ (us : List HeldUse). c.args.uses.now.items ++ us) (sym (keep_more c.args.held.now c.loop-head._head-index c.loop-head-test.true))
