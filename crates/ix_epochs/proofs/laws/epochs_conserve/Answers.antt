use Rattle.ix_epochs.proofs.Readiness.{epoch_ready}
use Rattle.ix_epochs.proofs.Weighing.{epoch_conserves}
use Rattle.ix_epochs.proofs.laws.epochs_conserve.Goals as goal

pub returns : goal.returns
returns g c = λ env feed feed' cores cores' whole so ran.
    let after = epoch_ready g.G.Unit.counted g.G.Unit.name g.G.Unit.stepped g.G.Unit.advanced g.G.GroupStack.drained env feed feed' cores cores' so (c.entries_are_fed.ensures feed feed' ran.feed).buffers ran in
    epoch_conserves g.G.Unit.counted g.G.Unit.name g.G.Unit.stepped g.G.Unit.advanced g.G.GroupStack.drained g.G.GroupStack.weight c.turns_conserve.ensures env feed feed' cores cores' whole so after ran
