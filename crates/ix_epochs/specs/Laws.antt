-- Turns of a worker, one run after the other.
use Rattle.std.proofs.Common.{ℕ, Bool, List}
use Rattle.ix_mbuf.specs.Buffers.{Buffer}
use Rattle.ix_stack.specs.declared.work.Work.{Work}
use Rattle.ix_feed.specs.Laws.{feed_joins, feed_stays}
use Rattle.ix_core.specs.Laws.{core_joins, core_stays}
use Rattle.ix_epochs.specs.declared.worker.Worker.{Worker}
use Rattle.ix_epochs.specs.declared.worker.Worker.TheVariants as worker
use Rattle.ix_epochs.specs.Workers.{WorkerBecame}

module _ {U E : Type 0} (counted : Work → Bool) (name : Work → ℕ) (stepped : U → List (ℕ × ℕ)) (advanced : U → E → ℕ → List Work → U → Type 0) (drained : U → List Buffer → U → Type 0) (env : E) where
  pub worker_stays : (x : Worker U E) → WorkerBecame counted name stepped advanced drained env x x
  worker_stays (worker.Card x) = feed_stays x
  worker_stays (worker.Core x) = core_stays counted name stepped advanced drained env x

  pub worker_joins : (x y z : Worker U E) → WorkerBecame counted name stepped advanced drained env x y → WorkerBecame counted name stepped advanced drained env y z
      → WorkerBecame counted name stepped advanced drained env x z
  worker_joins (worker.Card x) (worker.Card y) (worker.Card z) p q = feed_joins x y z p q
  worker_joins (worker.Core x) (worker.Core y) (worker.Core z) p q = core_joins counted name stepped advanced drained env x y z p q
  worker_joins (worker.Card x) (worker.Core y) z p q = absurd p
  worker_joins (worker.Core x) (worker.Card y) z p q = absurd p
  worker_joins (worker.Card x) (worker.Card y) (worker.Core z) p q = absurd q
  worker_joins (worker.Core x) (worker.Core y) (worker.Card z) p q = absurd q
