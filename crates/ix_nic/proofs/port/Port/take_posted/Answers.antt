use Rattle.ix_nic.proofs.PortLemmas.{taken_one, backed_without}
use Rattle.ix_nic.proofs.port.Port.take_posted.Goals as goal

pub invariant_of-self : goal.invariant_of-self
invariant_of-self c =
    (c.self.invariant.0, backed_without _ _ _ _ _ _ c.self.invariant.1 (taken_one c.self.inside.posts c.take.new.self c.in-Some.buf c.in-Some.ensures.some.1) c.saturating_sub-self-inside.ensures)
