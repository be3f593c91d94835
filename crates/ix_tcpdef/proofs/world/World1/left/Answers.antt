use Rattle.std.proofs.Common.{ℕ, ◌+◌, ◌≤◌, Bool, true, false, arith, length, subst}
use Rattle.ix_tcpdef.specs.Sound.{bit}
use Rattle.ix_tcpdef.specs.declared.types.Connection.{Connection}
use Rattle.ix_tcpdef.proofs.world.World1.left.Goals as goal

with_fin : (nxt given : ℕ) (b : Bool) → nxt ≤ given + 1 + bit b → nxt ≤ given + 2
with_fin nxt given true h = omega arith
with_fin nxt given false h = omega arith

pub returns-clause-within : goal.returns-clause-within
returns-clause-within c =
    subst (λ (w : Connection). c.self.inside.connection.nxt ≤ length w.sent + 2) c.self.view_is
    (with_fin _ _ c.self.inside.connection.fin_sent c.self.invariant.sound.sender.within)
