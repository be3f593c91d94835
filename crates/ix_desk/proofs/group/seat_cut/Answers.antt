use Rattle.std.proofs.Common.{◌≡◌, refl, sym, Some, None}
use Rattle.std.specs.Prelude.{position}
use Rattle.ix_desk.specs.Views.{Arrival}
use Rattle.ix_desk.specs.Groups.{is_awaiting}
use Rattle.ix_desk.proofs.Cuts.{awaited, none-awaits, none-seated, seated-at}
use Rattle.ix_desk.proofs.group.seat_cut.Goals as goal

pub returns-in_default-clause-cut : goal.returns-in_default-clause-cut
returns-in_default-clause-cut g c =
    let a : Arrival g.row.U.Denot g.row.I.Denot = record { tenure = c.args.tenure; unit = c.args.unit; queue = c.args.queue } in
    let e : position (is_awaiting c.args.tenure) c.args.cut.now.items ≡ None = cc (c.in_default.is, c.place_of_awaiting.ensures, c.as_slice.ensures.value) in
    sym (none-seated c.args.cut.now.items a e)

pub returns-in_default-clause-back : goal.returns-in_default-clause-back
returns-in_default-clause-back g c =
    let e : position (is_awaiting c.args.tenure) c.args.cut.now.items ≡ None = cc (c.in_default.is, c.place_of_awaiting.ensures, c.as_slice.ensures.value) in
    (refl, refl, none-awaits c.args.cut.now.items c.args.tenure e)

pub returns-clause-cut : goal.returns-clause-cut
returns-clause-cut g c =
    let a : Arrival g.row.U.Denot g.row.I.Denot = record { tenure = c.args.tenure; unit = c.args.unit; queue = c.args.queue } in
    let e : position (is_awaiting c.args.tenure) c.args.cut.now.items ≡ Some c.in-Some.place = cc (c.in-Some.is, c.place_of_awaiting.ensures, c.as_slice.ensures.value) in
    let v = c.here.view_is in let read = c.index_mut-here.ensures.value in let seated = c.seat.ensures in
    seated-at c.args.cut.now.items a c.in-Some.place (record { to = c.here.inside.to.0; piece = c.here.inside.desk }) _ e (cc) (cc)

pub returns-clause-seated : goal.returns-clause-seated
returns-clause-seated g c =
    let e : position (is_awaiting c.args.tenure) c.args.cut.now.items ≡ Some c.in-Some.place = cc (c.in-Some.is, c.place_of_awaiting.ensures, c.as_slice.ensures.value) in
    awaited c.args.cut.now.items c.args.tenure c.in-Some.place c.index_mut-here.result.now e
