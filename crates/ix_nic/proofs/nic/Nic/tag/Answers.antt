use Rattle.std.proofs.Common.{refl, sym, subst}
use Rattle.ix_base.specs.declared.id.CoreId.{CoreId}
use Rattle.ix_nic.specs.Cards.{CardView, Carries, HaveRoom}
use Rattle.ix_nic.specs.declared.control.Control.TheVariants as controls
use Rattle.ix_nic.proofs.CardLemmas.{have_room}
use Rattle.ix_nic.proofs.Carried.{tag_carried}
use Rattle.ix_nic.proofs.nic.Nic.tag.Goals as goal

pub carry-requires : goal.carry-requires
carry-requires c = have_room (controls.Tag c.args.group c.core-core.result) _ (subst (λ (v : CardView). HaveRoom v.ports) (sym c.self.view_is) c.requires.room)

pub returns-clause-rings : goal.returns-clause-rings
returns-clause-rings c =
    rw (← c.self.view_is)
    (subst (λ (k : CoreId). Carries (controls.Tag c.args.group k) c.self.inside.ports.items c.carry.new.ports.items) c.core-core.ensures c.carry.ensures)

pub returns-clause-entry : goal.returns-clause-entry
returns-clause-entry c = λ w.
    rw (← c.self.view_is)
    (tag_carried c.args.group w _ _ refl
    (subst (λ (k : CoreId). Carries (controls.Tag c.args.group k) c.self.inside.ports.items c.carry.new.ports.items) c.core-core.ensures c.carry.ensures))
