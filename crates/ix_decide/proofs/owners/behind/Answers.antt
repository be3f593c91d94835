use Rattle.std.proofs.Common.{◌≡◌, sym, ap, ◌∙◌}
use Rattle.std.specs.Prelude.{is_some}
use Rattle.ix_trace.specs.declared.sheet.Sheet.{Sheet}
use Rattle.ix_decide.specs.Points.{played, sheet_in}
use Rattle.ix_decide.proofs.OwnerLaws.{not-at, other-at}
use Rattle.ix_decide.proofs.owners.behind.Goals as goal

pub returns-then-not-is_settle-clause-fits : goal.returns-then-not-is_settle-clause-fits
returns-then-not-is_settle-clause-fits c =
    let same : c.report.inside.entries ≡ (sheet_in c.args.play.now).entries = ap (λ (s : Sheet). s.entries) c.report.view_is in
    other-at (played c.args.play.now) (sheet_in c.args.play.now).settles c.args.last.outs.items c.args.last.from c.args.last.next c.args.w c.as_slice.result.now _ c.is_settle.result
    (c.as_slice.ensures ∙ same) c.requires.from c.requires.within c.is_settle.ensures c.if-not-is_settle.true

pub returns-clause-fits : goal.returns-clause-fits
returns-clause-fits c =
    let same : c.report.inside.entries ≡ (sheet_in c.args.play.now).entries = ap (λ (s : Sheet). s.entries) c.report.view_is in
    not-at (played c.args.play.now) (sheet_in c.args.play.now).settles c.args.last.outs.items c.args.last.from c.args.last.next c.args.w c.as_slice.result.now _ c.is_settle.result
    (c.as_slice.ensures ∙ same) c.requires.within c.is_settle.ensures c.if-not-is_settle.false (sym c.in_ok-outs.ensures.fits ∙ ap is_some c.in-None.is)
