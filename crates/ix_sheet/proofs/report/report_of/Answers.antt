use Rattle.std.proofs.Common.{subst, sym}
use Rattle.ix_lines.specs.declared.types.Head.{Head}
use Rattle.ix_sheet.specs.Outcome.{CanBeReported}
use Rattle.ix_sheet.specs.Sheet.{IsSheetOf}
use Rattle.ix_sheet.proofs.SheetLaws.{conns-in_groups, sheet-value}
use Rattle.ix_sheet.proofs.report.report_of.Goals as goal

pub sheet_fits-requires-clause-conns : goal.sheet_fits-requires-clause-conns
sheet_fits-requires-clause-conns c =
    let can : CanBeReported c.head_of.result.cores c.args.outcome = subst (λ (h : Head). CanBeReported h.cores c.args.outcome) (sym c.head_of.ensures) c.requires in
    let is : IsSheetOf c.head_of.result c.args.outcome c.as_slice-2.result.now c.in_ok-sheet.sheet = c.in_ok-sheet.ensures in
    conns-in_groups c.head_of.result c.args.outcome c.as_slice-2.result.now c.in_ok-sheet.sheet can is

pub new-requires : goal.new-requires
new-requires c =
    let can : CanBeReported c.head_of.result.cores c.args.outcome = subst (λ (h : Head). CanBeReported h.cores c.args.outcome) (sym c.head_of.ensures) c.requires in
    let is : IsSheetOf c.head_of.result c.args.outcome c.as_slice-2.result.now c.in_ok-sheet.sheet = c.in_ok-sheet.ensures in
    sheet-value c.head_of.result c.args.outcome c.as_slice-2.result.now c.in_ok-sheet.sheet can is c.sheet_fits.ensures
