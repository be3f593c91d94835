use Rattle.std.proofs.Common.{rules, ◌≡◌, sym, refl}
use Rattle.std.specs.Prelude.{None}
use Rattle.ix_desk.specs.Groups.{unit_of}
use Rattle.ix_desk.specs.Desks.{group_at}
use Rattle.ix_core.proofs.LinkLaws.{frees_none, frees_some}
use Rattle.ix_core.proofs.mesh.drain_group.Goals as goal

pub returns-in_default : goal.returns-in_default
returns-in_default g c =
    let away : unit_of (group_at c.args.desks.now c.args.g.0) ≡ None = search rules in
    rw c.new.ensures.items (frees_none _ _ _ _ _ _ c.args.g.0 c.args.desks.now away)

pub returns : goal.returns
returns g c = frees_some _ _ _ _ _ _ _ _ c.args.g.0 c.in-Some.unit.now c.in_ok-bufs.bufs.items c.freed.new.self (sym c.in-Some.ensures.value) c.in_ok-bufs.ensures refl
