-- What an epoch makes of the card's side and the cores.
use Rattle.std.specs.Prelude.{◌≡◌, ℕ, Bool, true, List}
use Rattle.ix_mbuf.specs.Buffers.{Buffer}
use Rattle.ix_stack.specs.declared.work.Work.{Work}
use Rattle.ix_nic.specs.Cards.{CardView, all_waiting}
use Rattle.ix_feed.specs.Replays.{FeedView, ReplayView}
use Rattle.ix_feed.specs.Turns.{FeedBecame}
use Rattle.ix_core.specs.declared.turning.Core.{Core}
use Rattle.ix_core.specs.Meeting.{AllAreTold, AreInOrder}
use Rattle.ix_epochs.specs.Rest.{AllRest, NothingIsOnRings}
use Rattle.ix_epochs.specs.Workers.{CoresBecame}

-- The entries of the epoch are carried out, its end was put, and nothing stands behind a ring.
abbrev pub HasEnded : CardView → ReplayView → Type 0
HasEnded card replay = (replay.ended ≡ true) × (all_waiting card.ports ≡ 0)

-- An epoch is over: all its entries are carried out and nothing stands behind a ring; nothing stands on a ring that a core takes from; both ends
-- of each ring know it; and all cores are at rest.
pub record IsOver {U E : Type 0} (drained : U → List Buffer → U → Type 0) (feed : FeedView) (cores : List (Core U E)) : Type 0 where
  pub order : AreInOrder feed.card cores
  pub told : AllAreTold feed.card cores
  pub ended : HasEnded feed.card feed.replay
  pub empty : NothingIsOnRings cores
  pub rest : AllRest drained cores

module _ {U E : Type 0} (counted : Work → Bool) (name : Work → ℕ) (stepped : U → List (ℕ × ℕ)) (advanced : U → E → ℕ → List Work → U → Type 0) (drained : U → List Buffer → U → Type 0) (env : E) where
  -- Turns of its own took the card's side and each core to where the epoch is over.
  pub record EpochRan (x y : FeedView) (old new : List (Core U E)) : Type 0 where
    pub feed : FeedBecame x y
    pub cores : CoresBecame counted name stepped advanced drained env old new
    pub over : IsOver drained y new
