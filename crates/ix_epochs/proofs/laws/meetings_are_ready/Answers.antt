use Rattle.ix_epochs.proofs.Readiness.{meeting_ready, ready_can}
use Rattle.ix_epochs.proofs.laws.meetings_are_ready.Goals as goal
use Rattle.std.proofs.Common.{arith}

pub returns : goal.returns
returns g c = λ x y old new some so card cores order told.
    let ready = meeting_ready x y old new so card cores order told in
    record { ready = ready; can = ready_can y new (omega (arith, some, cores.count)) ready told }
