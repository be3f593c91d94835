use Rattle.std.proofs.Common.{◌≡◌, ◌∙◌, sym, ap, Some, None}
use Rattle.std.specs.Prelude.{position, ◌==◌}
use Rattle.ix_desk.specs.Views.{Arrival}
use Rattle.ix_desk.proofs.Cuts.{arrival-at, but-arrival-at, none-arrived, none-but-arrived}
use Rattle.ix_desk.proofs.group.take_early.Goals as goal

pub returns-in_err-place-clause-taken : goal.returns-in_err-place-clause-taken
returns-in_err-place-clause-taken g c =
    let e : position (λ (a : Arrival g.row.U.Denot g.row.I.Denot). a.tenure == c.args.tenure) c.args.early.now.items ≡ None = cc (c.in_err-place.ensures, c.as_slice.ensures.value) in
    let none = none-arrived c.args.early.now.items c.args.tenure e in cc (none, c.from_residual.ensures)

pub returns-in_err-place-clause-rest : goal.returns-in_err-place-clause-rest
returns-in_err-place-clause-rest g c =
    let e : position (λ (a : Arrival g.row.U.Denot g.row.I.Denot). a.tenure == c.args.tenure) c.args.early.now.items ≡ None = cc (c.in_err-place.ensures, c.as_slice.ensures.value) in
    sym (none-but-arrived c.args.early.now.items c.args.tenure e)

pub returns-clause-taken : goal.returns-clause-taken
returns-clause-taken g c =
    let e : position (λ (a : Arrival g.row.U.Denot g.row.I.Denot). a.tenure == c.args.tenure) c.args.early.now.items ≡ Some c.in_ok-place.place = cc (c.in_ok-place.ensures, c.as_slice.ensures.value) in
    ap Some c.remove.ensures.value ∙ sym (arrival-at c.args.early.now.items c.args.tenure c.in_ok-place.place c.remove.result e)

pub returns-clause-rest : goal.returns-clause-rest
returns-clause-rest g c =
    let e : position (λ (a : Arrival g.row.U.Denot g.row.I.Denot). a.tenure == c.args.tenure) c.args.early.now.items ≡ Some c.in_ok-place.place = cc (c.in_ok-place.ensures, c.as_slice.ensures.value) in
    c.remove.ensures.items ∙ sym (but-arrival-at c.args.early.now.items c.args.tenure c.in_ok-place.place c.remove.result e)
