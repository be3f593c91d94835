use Rattle.std.proofs.Common.{◌≡◌, sym, ap, ◌∙◌, List}
use Rattle.std.specs.Prelude.{slice_get}
use Rattle.ix_lines.specs.declared.types.SettleLine.{SettleLine}
use Rattle.ix_trace.specs.declared.sheet.Sheet.{Sheet}
use Rattle.ix_decide.specs.Points.{played, sheet_in}
use Rattle.ix_decide.proofs.OwnerLaws.{settle-read}
use Rattle.ix_decide.proofs.owners.settle_at.Goals as goal

pub returns-then-not-branch-clause-fits : goal.returns-then-not-branch-clause-fits
returns-then-not-branch-clause-fits c =
    let same : c.report.inside.settles ≡ (sheet_in c.args.play.now).settles = ap (λ (s : Sheet). s.settles) c.report.view_is in
    let entries : c.report.inside.entries ≡ (sheet_in c.args.play.now).entries = ap (λ (s : Sheet). s.entries) c.report.view_is in
    sym (settle-read (played c.args.play.now) (sheet_in c.args.play.now).settles c.args.last.now.outs.items c.in_ok-outs-in-Some.outs.items c.as_slice-before.result.now c.as_slice.result.now c.args.last.now.from c.args.last.now.next c.args.w
    c.in-Some.settle.now c.in_ok-settle_tells-in-Some.field-0 c.as_slice-entries.result.now (c.as_slice-entries.ensures ∙ entries) c.as_slice-before.ensures.value c.as_slice.ensures.value (ap (λ (ls : List SettleLine). slice_get ls c.args.last.now.next) (sym same) ∙ sym c.in-Some.ensures.value) c.in_ok-outs-in-Some.ensures c.in_ok-settle_tells-in-Some.ensures
    ∙ c.if-not-branch.true)

pub returns-else-not-branch-clause-fits : goal.returns-else-not-branch-clause-fits
returns-else-not-branch-clause-fits c =
    let same : c.report.inside.settles ≡ (sheet_in c.args.play.now).settles = ap (λ (s : Sheet). s.settles) c.report.view_is in
    let entries : c.report.inside.entries ≡ (sheet_in c.args.play.now).entries = ap (λ (s : Sheet). s.entries) c.report.view_is in
    sym (settle-read (played c.args.play.now) (sheet_in c.args.play.now).settles c.args.last.now.outs.items c.in_ok-outs-in-Some.outs.items c.as_slice-before.result.now c.as_slice.result.now c.args.last.now.from c.args.last.now.next c.args.w
    c.in-Some.settle.now c.in_ok-settle_tells-in-Some.field-0 c.as_slice-entries.result.now (c.as_slice-entries.ensures ∙ entries) c.as_slice-before.ensures.value c.as_slice.ensures.value (ap (λ (ls : List SettleLine). slice_get ls c.args.last.now.next) (sym same) ∙ sym c.in-Some.ensures.value) c.in_ok-outs-in-Some.ensures c.in_ok-settle_tells-in-Some.ensures
    ∙ c.if-not-branch.false)
