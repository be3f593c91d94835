use Rattle.std.proofs.Common.{◌∙◌}
use Rattle.std.proofs.lemmas.Result.{IfOk-weaker}
use Rattle.ix_decide.specs.Points.{cycles_in, frames_in, settings_in}
use Rattle.ix_decide.proofs.replies.replies_fit.Goals as goal

pub returns : goal.returns
returns c =
    let p = c.args.play.now in
    IfOk-weaker c.replies_fit.result _ _ (λ fit decides.
    decides (settings_in p) (frames_in p) (cycles_in p) c.local_of-local.ensures (c.as_slice.ensures.value ∙ c.in_ok-records.ensures.records))
    c.replies_fit.ensures.fit
