-- What all cores hold, and what the card took and gave, for each weight of buffers.
use Rattle.std.specs.Prelude.{◌≡◌, ◌<◌, ◌+◌, ◌++◌, ℕ, Bool, List, length, slice_index_or, sum_by}
use Rattle.ix_mbuf.specs.declared.name.Name.{Name}
use Rattle.ix_mbuf.specs.Buffers.{Buffer, buffers_weight}
use Rattle.ix_ring.specs.Ends.{known, taken}
use Rattle.ix_stack.specs.declared.work.Work.{Work}
use Rattle.ix_stack.specs.Items.{items_weight}
use Rattle.ix_nic.specs.Ports.{PortView, whole}
use Rattle.ix_feed.specs.Replays.{FeedView}
use Rattle.ix_core.specs.declared.turning.Core.{Core}
use Rattle.ix_core.specs.Weights.{core_weight}
use Rattle.ix_epochs.specs.Epochs.{EpochRan}
use Rattle.ix_epochs.specs.Ready.{IsReady}

-- what cores hold
abbrev pub cores_weight : {U E : Type 0} → ((Name → ℕ) → U → ℕ) → (Name → ℕ) → List (Core U E) → ℕ
cores_weight weight f cores = sum_by (core_weight (weight f) f) cores

-- what was posted to the card: what it took of it, and what is there
abbrev pub posts_weight : (Name → ℕ) → List PortView → ℕ
posts_weight f ports = sum_by (λ p. buffers_weight f (taken p.posts ++ known p.posts)) ports

-- what the card put on the rings, or behind them
abbrev pub given_weight : (Name → ℕ) → List PortView → ℕ
given_weight f ports = sum_by (λ p. items_weight f (whole p)) ports

-- every desk of every core is there
abbrev pub AreWhole : {U E : Type 0} → List (Core U E) → Type 0
AreWhole {U} {E} cores = (c : ℕ) (d : Core U E) → c < length cores → length (slice_index_or cores c d).desks.groups ≡ 512

-- Over an epoch the cores lost no buffer and made none: what they hold and what was posted grew by what the card gave, for each weight of buffers.
-- The card's own frames have names of their own: a buffer that is filled has a use more.
abbrev pub EpochsConserve : {U E : Type 0} → (Work → Bool) → (Work → ℕ) → (U → List (ℕ × ℕ)) → (U → E → ℕ → List Work → U → Type 0) → (U → List Buffer → U → Type 0) → ((Name → ℕ) → U → ℕ) → Type 0
EpochsConserve {U} {E} counted name stepped advanced drained weight = (env : E) (feed feed' : FeedView) (cores cores' : List (Core U E)) → AreWhole cores → IsReady feed.card cores
    → EpochRan counted name stepped advanced drained env feed feed' cores cores'
    → AreWhole cores' × ((f : Name → ℕ) → cores_weight weight f cores' + (posts_weight f feed'.card.ports + given_weight f feed.card.ports)
    ≡ cores_weight weight f cores + (posts_weight f feed.card.ports + given_weight f feed'.card.ports))
