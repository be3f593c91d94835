-- The card and the cores between epochs.
use Rattle.std.specs.Prelude.{◌≡◌, ◌<◌, ◌≤◌, ℕ, Bool, List, length, map, slice_index_or}
use Rattle.ix_base.specs.declared.id.Owned.{Owned}
use Rattle.ix_mbuf.specs.Buffers.{Buffer}
use Rattle.ix_stack.specs.declared.work.Work.{Work}
use Rattle.ix_nic.specs.Cards.{CardView, opened}
use Rattle.ix_nic.specs.Ports.{PortView}
use Rattle.ix_nic.specs.declared.port.NicEnd.{NicEnd}
use Rattle.ix_feed.specs.Replays.{FeedView}
use Rattle.ix_core.specs.declared.message.CoreEnds.{CoreEnds}
use Rattle.ix_core.specs.declared.settling.SettleReport.{SettleReport}
use Rattle.ix_core.specs.declared.turning.Core.{Core}
use Rattle.ix_core.specs.Meeting.{AllAreTold, AreInOrder, CardLearned, CoresLearned}
use Rattle.ix_core.specs.Opening.{EndsAreNew}
use Rattle.ix_core.specs.Order.{AreOpenedAs, EndsAreInOrder}
use Rattle.ix_core.specs.Renewing.{IsResting}
use Rattle.ix_core.specs.Settling.{CanSettle, MeshIsEmpty, Settles}
use Rattle.ix_epochs.specs.Epochs.{EpochRan}
use Rattle.ix_epochs.specs.Rest.{KeepsNothing}

module _ {U E : Type 0} where
  -- Nothing is under way: nothing stands on a receive ring or behind it, no message is on the mesh or waits for it, nothing that came is kept
  -- aside, and no more buffers are posted to a core's ring than it has places.
  pub record IsReady (card : CardView) (cores : List (Core U E)) : Type 0 where
    pub order : AreInOrder card cores
    pub ports : (c : ℕ) (p : PortView) (d : Core U E) → c < length cores → IsResting (slice_index_or card.ports c p) (slice_index_or cores c d)
    pub mesh : MeshIsEmpty cores
    pub keep : (c : ℕ) (d : Core U E) → c < length cores → KeepsNothing (slice_index_or cores c d)

  -- where it can be settled besides
  pub record IsReadyToSettle (card : CardView) (cores : List (Core U E)) : Type 0 where
    pub ready : IsReady card cores
    pub can : CanSettle card cores

-- ## The laws
-- at the opening
abbrev pub OpeningsAreReady : Type 0 → Type 0 → Type 0
OpeningsAreReady U E = (places : ℕ) (x : CardView) (card : List NicEnd) (ends : List (CoreEnds U E)) (cores : List (Core U E)) → x.ports ≡ map opened card → EndsAreInOrder card ends
    → EndsAreNew places card ends → AreOpenedAs ends cores → IsReady x cores

-- after a meeting
abbrev pub MeetingsAreReady : Type 0 → Type 0 → Type 0
MeetingsAreReady U E = (x y : CardView) (old new : List (Core U E)) → 1 ≤ length old → IsReady x old → CardLearned x y → CoresLearned old new → AreInOrder y new → AllAreTold y new
    → IsReadyToSettle y new

-- after an epoch
abbrev pub EpochsAreReady : {U E : Type 0} → (Work → Bool) → (Work → ℕ) → (U → List (ℕ × ℕ)) → (U → E → ℕ → List Work → U → Type 0) → (U → List Buffer → U → Type 0) → Type 0
EpochsAreReady {U} {E} counted name stepped advanced drained = (env : E) (feed feed' : FeedView) (cores cores' : List (Core U E)) → 1 ≤ length cores → IsReady feed.card cores
    → EpochRan counted name stepped advanced drained env feed feed' cores cores' → IsReadyToSettle feed'.card cores'

-- after a settle
abbrev pub SettlesAreReady : Type 0 → Type 0 → Type 0
SettlesAreReady U E = (owners : U → ℕ → Owned) (report : SettleReport) (x y : CardView) (old new : List (Core U E)) → IsReady x old → Settles owners report x y old new → IsReady y new
