use Rattle.std.proofs.Common.{◌≡◌, ◌∷◌, ◌++◌, map, false}
use Rattle.ix_epochs.specs.declared.worker.Worker.TheVariants as worker
use Rattle.ix_epochs.specs.Workers.{AllCores, is_core}
use Rattle.ix_epochs.proofs.crew.unpacked.Given as goal

abbrev pub invariant-loop-worker : goal.invariant-loop-worker
invariant-loop-worker g l = record {
  first : is_core l.first ≡ false;
  cores : AllCores l.worker-iterator.rest.items;
  whole : l.first ∷ (map worker.Core l.cores.items ++ l.worker-iterator.rest.items) ≡ l.fn.workers.items;
}
