-- The workers of an epoch: the card's, and one for each core.
use Rattle.std.specs.Prelude.{◌≡◌, ℕ, Bool, true, false, List, [], ◌∷◌, map}
use Rattle.ix_mbuf.specs.Buffers.{Buffer}
use Rattle.ix_stack.specs.declared.work.Work.{Work}
use Rattle.ix_feed.specs.declared.actor.Feed.{Feed}
use Rattle.ix_feed.specs.Turns.{FeedBecame}
use Rattle.ix_core.specs.declared.turning.Core.{Core}
use Rattle.ix_core.specs.Cores.{CoreBecame}
use Rattle.ix_core.specs.Homing.{EachIs}
use Rattle.ix_epochs.specs.declared.worker.Worker.{Worker}
use Rattle.ix_epochs.specs.declared.worker.Worker.TheVariants as worker

module _ {U E : Type 0} where
  -- the card and its cores as one list of workers
  abbrev pub crew : Feed → List (Core U E) → List (Worker U E)
  crew feed cores = worker.Card feed ∷ map worker.Core cores

  abbrev pub is_core : Worker U E → Bool
  is_core (worker.Card x) = false
  is_core (worker.Core x) = true

  abbrev pub AllCores : List (Worker U E) → Type 0
  AllCores [] = Unit {0}
  AllCores (x ∷ xs) = (is_core x ≡ true) × AllCores xs

  -- the first is the card, and all others are cores
  abbrev pub IsCrew : List (Worker U E) → Type 0
  IsCrew [] = ⊥
  IsCrew (x ∷ xs) = (is_core x ≡ false) × AllCores xs

  abbrev pub has_failed : Worker U E → Bool
  has_failed (worker.Card x) = false
  has_failed (worker.Core x) = x.failed

module _ {U E : Type 0} (counted : Work → Bool) (name : Work → ℕ) (stepped : U → List (ℕ × ℕ)) (advanced : U → E → ℕ → List Work → U → Type 0) (drained : U → List Buffer → U → Type 0) (env : E) where
  -- What turns of its own make of a worker.
  abbrev pub WorkerBecame : Worker U E → Worker U E → Type 0
  WorkerBecame (worker.Card x) (worker.Card y) = FeedBecame x y
  WorkerBecame (worker.Core x) (worker.Core y) = CoreBecame counted name stepped advanced drained env x y
  WorkerBecame (worker.Card x) (worker.Core y) = ⊥
  WorkerBecame (worker.Core x) (worker.Card y) = ⊥

  -- the same of all workers, and of all cores
  abbrev pub WorkersBecame : List (Worker U E) → List (Worker U E) → Type 0
  WorkersBecame old new = EachIs WorkerBecame old new

  abbrev pub CoresBecame : List (Core U E) → List (Core U E) → Type 0
  CoresBecame old new = EachIs (CoreBecame counted name stepped advanced drained env) old new
