use Rattle.std.proofs.Common.{sym, ◌∙◌, arith}
use Rattle.ix_seg.proofs.OptionLaws.{mss_after-past}
use Rattle.ix_seg.proofs.options.mss_of.Goals as goal

pub loop-rest-preserved : goal.loop-rest-preserved
loop-rest-preserved c =
    sym (mss_after-past c.loop-rest.rest.now (omega arith) (λ h. omega arith) (λ h. omega arith) (omega arith) (omega arith) (λ h k. omega arith))
    ∙ c.loop-rest.invariant
