use Rattle.std.proofs.Common.{arith}
use Rattle.ix_epochs.proofs.Readiness.{epoch_ready, ready_can}
use Rattle.ix_epochs.proofs.laws.epochs_are_ready.Goals as goal

pub returns : goal.returns
returns g c = λ env feed feed' cores cores' some so ran.
    let ready = epoch_ready g.G.Unit.counted g.G.Unit.name g.G.Unit.stepped g.G.Unit.advanced g.G.GroupStack.drained env feed feed' cores cores' so (c.entries_are_fed.ensures feed feed' ran.feed).buffers ran in
    record { ready = ready; can = ready_can feed'.card cores' (omega (arith, some, ran.cores.count)) ready ran.over.told }
