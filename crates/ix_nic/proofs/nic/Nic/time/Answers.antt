use Rattle.std.proofs.Common.{refl, sym, subst}
use Rattle.ix_nic.specs.Cards.{CardView, HaveRoom}
use Rattle.ix_nic.specs.declared.control.Control.TheVariants as controls
use Rattle.ix_nic.proofs.CardLemmas.{have_room}
use Rattle.ix_nic.proofs.Carried.{time_carried}
use Rattle.ix_nic.proofs.nic.Nic.time.Goals as goal

pub carry-requires : goal.carry-requires
carry-requires c = have_room (controls.Time c.args.w c.args.t) _ (subst (λ (v : CardView). HaveRoom v.ports) (sym c.self.view_is) c.requires)

pub returns-clause-entry : goal.returns-clause-entry
returns-clause-entry c = rw (← c.self.view_is) (time_carried _ _ _ _ refl c.carry.ensures)
