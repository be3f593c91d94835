use Rattle.std.proofs.Common.{◌≡◌, sym, ap, ◌∙◌, List}
use Rattle.std.specs.Prelude.{slice_get}
use Rattle.ix_lines.specs.declared.types.SettleLine.{SettleLine}
use Rattle.ix_trace.specs.declared.sheet.Sheet.{Sheet}
use Rattle.std.proofs.lemmas.Result.{IfOk-weaker}
use Rattle.ix_decide.specs.Points.{played, sheet_in}
use Rattle.ix_decide.proofs.OwnerLaws.{opening-some}
use Rattle.ix_decide.proofs.owners.settles_fit.Goals as goal

pub returns-in-Some : goal.returns-in-Some
returns-in-Some c =
    let same : c.report.inside.settles ≡ (sheet_in c.args.play.now).settles = ap (λ (s : Sheet). s.settles) c.report.view_is in
    IfOk-weaker c.all_fit.result _ _ (λ fit is.
    opening-some (played c.args.play.now) (sheet_in c.args.play.now).settles c.in-Some.opening.now fit (ap (λ (ls : List SettleLine). slice_get ls 0) (sym same) ∙ sym c.in-Some.ensures.value) is)
    c.all_fit.ensures
