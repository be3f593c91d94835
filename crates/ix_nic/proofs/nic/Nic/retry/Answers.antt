use Rattle.std.proofs.Common.{◌<◌, List, subst}
use Rattle.ix_nic.specs.Cards.{all_waiting}
use Rattle.ix_nic.specs.Ports.{PortView}
use Rattle.ix_nic.specs.declared.control.Control.TheVariants as controls
use Rattle.ix_nic.proofs.CardLemmas.{few_wait}
use Rattle.ix_nic.proofs.Kept.{carries_keep}
use Rattle.ix_nic.proofs.nic.Nic.retry.Goals as goal

pub returns-clause-buffers : goal.returns-clause-buffers
returns-clause-buffers c = rw (← c.self.view_is) (carries_keep controls.Nothing _ _ c.carry.ensures)

pub returns-clause-room : goal.returns-clause-room
returns-clause-room c = λ few.
    few_wait _ (subst (λ (ps : List PortView). all_waiting ps < 1024) c.deref.ensures.value (subst (λ n. n < 1024) c.waiting.ensures few))
