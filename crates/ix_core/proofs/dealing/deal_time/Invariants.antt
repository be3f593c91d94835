use Rattle.std.proofs.Common.{◌≡◌, ◌++◌, map, take, drop}
use Rattle.ix_history.specs.Events.{given}
use Rattle.ix_stack.specs.declared.work.Work.TheVariants.{Time}
use Rattle.ix_core.proofs.dealing.deal_time.Given as goal

abbrev pub invariant-loop-g : goal.invariant-loop-g
invariant-loop-g g l =
    l.desks ≡ record { core = l.initial.desks.core; failed = l.initial.desks.failed; groups = map (given (Time l.w l.t)) (take l.g l.initial.desks.groups) ++ drop l.g l.initial.desks.groups }
