use Rattle.std.proofs.Common.{◌≡◌, ◌∙◌, sym, ap, Some, None}
use Rattle.std.specs.Prelude.{position}
use Rattle.ix_desk.specs.Groups.{is_finished}
use Rattle.ix_desk.proofs.Cuts.{but-done-at, done-at, none-but-done, none-done}
use Rattle.ix_desk.proofs.group.take_done.Goals as goal

pub returns-in_err-place-clause-done : goal.returns-in_err-place-clause-done
returns-in_err-place-clause-done g c =
    let e : position is_finished c.args.cut.now.items ≡ None = cc (c.in_err-place.ensures, c.as_slice.ensures.value) in
    let none = none-done c.args.cut.now.items e in cc (none, c.from_residual.ensures)

pub returns-in_err-place-clause-rest : goal.returns-in_err-place-clause-rest
returns-in_err-place-clause-rest g c =
    let e : position is_finished c.args.cut.now.items ≡ None = cc (c.in_err-place.ensures, c.as_slice.ensures.value) in
    sym (none-but-done c.args.cut.now.items e)

pub returns-clause-done : goal.returns-clause-done
returns-clause-done g c =
    let e : position is_finished c.args.cut.now.items ≡ Some c.in_ok-place.place = cc (c.in_ok-place.ensures, c.as_slice.ensures.value) in
    ap Some c.remove.ensures.value ∙ sym (done-at c.args.cut.now.items c.in_ok-place.place c.remove.result e)

pub returns-clause-rest : goal.returns-clause-rest
returns-clause-rest g c =
    let e : position is_finished c.args.cut.now.items ≡ Some c.in_ok-place.place = cc (c.in_ok-place.ensures, c.as_slice.ensures.value) in
    c.remove.ensures.items ∙ sym (but-done-at c.args.cut.now.items c.in_ok-place.place c.remove.result e)
