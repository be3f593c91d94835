use Rattle.std.proofs.Common.{◌≢◌, ◌<◌, ◌+◌, ◌∙◌, sym, subst, length}
use Rattle.ix_base.specs.declared.id.CoreId.{CoreId}
use Rattle.ix_reta.specs.Table.{tenure_of}
use Rattle.ix_nic.specs.Cards.{CardView, Carries, HaveRoom, core_at}
use Rattle.ix_nic.specs.declared.control.Control.TheVariants as controls
use Rattle.ix_nic.proofs.CardLemmas.{have_room, card_turned}
use Rattle.ix_nic.proofs.Carried.{turn_carried}
use Rattle.ix_nic.proofs.nic.Nic.turn.Goals as goal

pub carry-requires : goal.carry-requires
carry-requires c = have_room (controls.Turn c.args.group c.core-from.result c.args.to c.tenure-tenure.result) _ (subst (λ (v : CardView). HaveRoom v.ports) (sym c.self.view_is) c.requires.room)

pub invariant_of-self : goal.invariant_of-self
invariant_of-self c =
    card_turned _ _ _ _ c.args.group c.args.to c.self.invariant c.carry.ensures.count
    (subst (λ (v : CardView). c.args.to.0 < length v.ports) (sym c.self.view_is) c.requires.core) c.turn.ensures.core c.turn.ensures.others

pub returns-clause-rings : goal.returns-clause-rings
returns-clause-rings c =
    rw (← c.self.view_is)
    (subst (λ (k : CoreId). Carries (controls.Turn c.args.group k c.args.to (tenure_of c.self.inside.reta.turns c.args.group.0 + 1)) c.self.inside.ports.items c.carry.new.ports.items) c.core-from.ensures
    (subst (λ n. Carries (controls.Turn c.args.group c.core-from.result c.args.to n) c.self.inside.ports.items c.carry.new.ports.items)
    (c.tenure-tenure.ensures ∙ c.turn.ensures.tenure) c.carry.ensures))

pub returns-clause-entry : goal.returns-clause-entry
returns-clause-entry c = λ w.
    let other = subst (λ (v : CardView). c.args.to.0 ≢ (core_at v.table c.args.group.0).0) (sym c.self.view_is) c.requires.other in
    let carries = subst (λ (k : CoreId). Carries (controls.Turn c.args.group k c.args.to (tenure_of c.self.inside.reta.turns c.args.group.0 + 1)) c.self.inside.ports.items c.carry.new.ports.items) c.core-from.ensures
    (subst (λ n. Carries (controls.Turn c.args.group c.core-from.result c.args.to n) c.self.inside.ports.items c.carry.new.ports.items)
    (c.tenure-tenure.ensures ∙ c.turn.ensures.tenure) c.carry.ensures) in
    rw (← c.self.view_is)
    (turn_carried c.args.group c.args.to w _ _ other carries c.turn.ensures.core c.turn.ensures.tenure c.turn.ensures.others c.turn.ensures.other_tenures)
