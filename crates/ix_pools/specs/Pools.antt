-- What stays of the cores and their pools from settle to settle, and whose buffers the frames of an epoch lie in.
use Rattle.std.specs.Prelude.{◌≡◌, ◌≤◌, ℕ, Bool, List, length}
use Rattle.std.specs.List.{AllByRecursion}
use Rattle.ix_base.specs.declared.id.Owned.{Owned}
use Rattle.ix_mbuf.specs.declared.name.Name.{Name}
use Rattle.ix_mbuf.specs.Buffers.{Buffer}
use Rattle.ix_stack.specs.declared.work.Work.{Work}
use Rattle.ix_nic.specs.Cards.{CardView}
use Rattle.ix_core.specs.declared.settling.SettleReport.{SettleReport}
use Rattle.ix_core.specs.declared.turning.Core.{Core}
use Rattle.ix_core.specs.Homing.{EachIs}
use Rattle.ix_core.specs.Settling.{Settles}
use Rattle.ix_feed.specs.Replays.{FeedView}
use Rattle.ix_epochs.specs.Epochs.{EpochRan}
use Rattle.ix_carried.specs.Laws.{HasOwnBuffer}
use Rattle.ix_homes.specs.Homes.{IsHome}
use Rattle.ix_slots.specs.Slots.{HasRing}
use Rattle.ix_tells.specs.Wholes.{HaveSlots}

-- the same core, with as many slots in its pool and the same bound of a batch
pub record CoreStays {U E : Type 0} (x y : Core U E) : Type 0 where
  pub home : y.pool.home ≡ x.pool.home
  pub slots : y.pool.n ≡ x.pool.n
  pub batch : y.batch ≡ x.batch

-- with the same desks besides
pub record DesksStay {U E : Type 0} (x y : Core U E) : Type 0 where
  pub stays : CoreStays x y
  pub desks : y.desks ≡ x.desks

-- ## Laws
abbrev pub EpochsKeepPools : (U E : Type 0) → (Work → Bool) → (Work → ℕ) → (U → List (ℕ × ℕ)) → (U → E → ℕ → List Work → U → Type 0) → (U → List Buffer → U → Type 0) → Type 0
EpochsKeepPools U E counted name stepped advanced drained = (env : E) (feed feed' : FeedView) (cores cores' : List (Core U E)) → EpochRan counted name stepped advanced drained env feed feed' cores cores'
    → EachIs CoreStays cores cores'

abbrev pub SettlesKeepPools : Type 0 → Type 0 → Type 0
SettlesKeepPools U E = (owners : U → ℕ → Owned) (report : SettleReport) (card card' : CardView) (cores cores' : List (Core U E)) → Settles owners report card card' cores cores' → EachIs DesksStay cores cores'

abbrev pub SlotsStay : Type 0 → Type 0 → Type 0
SlotsStay U E = (buffers : ℕ) (cores cores' : List (Core U E)) → EachIs CoreStays cores cores' → HaveSlots buffers cores → HaveSlots buffers cores'

-- The frames that an epoch accepted lie in buffers of their rings' cores.
abbrev pub FramesOfEpochsAreOwn : (U E : Type 0) → (Work → Bool) → (Work → ℕ) → (U → List (ℕ × ℕ)) → (U → E → ℕ → List Work → U → Type 0) → (U → List Buffer → U → Type 0) → ((Name → ℕ) → U → ℕ) → Type 0
FramesOfEpochsAreOwn U E counted name stepped advanced drained weight = (buffers : ℕ) (env : E) (feed feed' : FeedView) (cores cores' : List (Core U E)) → 1 ≤ length cores → HaveSlots buffers cores
    → IsHome drained weight feed.card cores → (ran : EpochRan counted name stepped advanced drained env feed feed' cores cores') → AllByRecursion (HasRing (length cores)) ran.feed.told
    → AllByRecursion (HasOwnBuffer buffers) ran.feed.told
