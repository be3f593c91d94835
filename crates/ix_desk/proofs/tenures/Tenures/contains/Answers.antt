use Rattle.std.proofs.Common.{sym}
use Rattle.ix_desk.proofs.Numbers.{none_above}
use Rattle.ix_desk.proofs.tenures.Tenures.contains.Goals as goal

pub returns-then-tenure-self : goal.returns-then-tenure-self
returns-then-tenure-self c = rw (← c.self.view_is) (sym (none_above _ _ _ c.self.invariant c.if-tenure-self.true))
