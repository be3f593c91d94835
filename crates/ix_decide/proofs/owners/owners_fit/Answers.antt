use Rattle.std.proofs.lemmas.Result.{IfOk-weaker}
use Rattle.ix_decide.specs.Points.{cycles_in, frames_in, settings_in, sheet_in}
use Rattle.ix_decide.proofs.OwnerLaws.{owners-decided}
use Rattle.ix_decide.proofs.owners.owners_fit.Goals as goal

pub returns : goal.returns
returns c =
    let p = c.args.play.now in
    IfOk-weaker c.settles_fit.result _ _ (λ fit is. owners-decided (settings_in p) (frames_in p) (sheet_in p) (cycles_in p) fit is) c.settles_fit.ensures
