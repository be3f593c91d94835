use Rattle.std.specs.Prelude.{Option, None, Some, IfNone}
use Rattle.ix_desk.specs.Views.{View}
use Rattle.ix_desk.proofs.Places.{keeps}
use Rattle.ix_desk.proofs.desks.Desks.take_unit.Goals as goal

if_none-weaker : {X P Q : Type 0} (o : Option X) → (P → Q) → IfNone o P → IfNone o Q
if_none-weaker None f p = f p
if_none-weaker (Some x) f p = p

pub returns-clause-none : goal.returns-clause-none
returns-clause-none g c =
    let v : View g.row.U.Denot g.row.U-Item.Denot = record { core = c.self.inside.core.0; failed = c.self.inside.failed; groups = c.self.inside.groups.items } in
    rw (← c.self.view_is) (if_none-weaker c.take_unit.result
    (λ same. keeps v c.in-Some.place c.args.g.0 c.index_mut-group.result.now c.take_unit.new.self c.index_mut-group.ensures.value same)
    c.take_unit.ensures.none)
