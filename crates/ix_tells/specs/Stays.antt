-- From settle to settle each buffer is in its place: over an epoch and the settle behind it.
use Rattle.std.specs.Prelude.{◌≡◌, ◌<◌, ◌≤◌, ℕ, Bool, List, [], None, length, slice_index_or}
use Rattle.ix_base.specs.declared.id.Owned.{Owned}
use Rattle.ix_mbuf.specs.declared.name.Name.{Name}
use Rattle.ix_mbuf.specs.Buffers.{Buffer}
use Rattle.ix_mbuf.specs.Pools.{all_names}
use Rattle.ix_ring.specs.Ends.{known}
use Rattle.ix_desk.specs.Desks.{group_at}
use Rattle.ix_desk.specs.Views.{View}
use Rattle.ix_stack.specs.declared.work.Work.{Work}
use Rattle.ix_nic.specs.Cards.{CardView}
use Rattle.ix_nic.specs.Ports.{PortView}
use Rattle.ix_core.specs.declared.settling.SettleReport.{SettleReport}
use Rattle.ix_core.specs.declared.turning.Core.{Core}
use Rattle.ix_core.specs.Settling.{Settles}
use Rattle.ix_core.specs.Weights.{desks_weight}
use Rattle.ix_feed.specs.Replays.{FeedView}
use Rattle.ix_epochs.specs.Epochs.{EpochRan}
use Rattle.ix_epochs.specs.Ready.{IsReady}
use Rattle.ix_epochs.specs.Rest.{NothingIsOnRings}
use Rattle.ix_homes.specs.Homes.{IsHome, IsLevel}

-- no flow group has a piece that was cut, and none came early
pub record IsAlone {U : Type 0} (v : View U Work) : Type 0 where
  pub cut : (g : ℕ) → g < 512 → (group_at v g).cut ≡ []
  pub early : (g : ℕ) → g < 512 → (group_at v g).early ≡ []

abbrev pub AreAlone : {U E : Type 0} → List (Core U E) → Type 0
AreAlone {U} {E} cores = (c : ℕ) (d : Core U E) → c < length cores → IsAlone (slice_index_or cores c d).desks

-- A core and the card's side of its rings before any frame came: all buffers of the core are free in its pool, and none is anywhere else.
pub record IsFresh {U E : Type 0} (weight : (Name → ℕ) → U → ℕ) (p : PortView) (c : Core U E) : Type 0 where
  pub free : c.pool.free ≡ all_names c.pool.home c.pool.n
  pub returns : c.returns.items ≡ []
  pub desks : (f : Name → ℕ) → desks_weight (weight f) f c.desks ≡ 0
  pub posts : known p.posts ≡ []
  pub kept : p.kept ≡ None

-- ## Laws
-- behind the settle at the opening
abbrev pub OpeningsAreHome : (U E : Type 0) → (U → List Buffer → U → Type 0) → ((Name → ℕ) → U → ℕ) → (U → ℕ → Owned) → Type 0
OpeningsAreHome U E drained weight owners = (card card' : CardView) (report : SettleReport) (cores after : List (Core U E)) → IsReady card cores → NothingIsOnRings cores
    → ((c : ℕ) (d : Core U E) → c < length cores → IsLevel drained (slice_index_or cores c d).desks)
    → ((c : ℕ) (p : PortView) (d : Core U E) → c < length cores → IsFresh weight (slice_index_or card.ports c p) (slice_index_or cores c d))
    → Settles owners report card card' cores after → IsHome drained weight card' after

-- behind an epoch and its settle
abbrev pub HomesStay : (U E : Type 0) → (Work → Bool) → (Work → ℕ) → (U → List (ℕ × ℕ)) → (U → E → ℕ → List Work → U → Type 0) → (U → List Buffer → U → Type 0) → ((Name → ℕ) → U → ℕ) → (U → ℕ → Owned) → Type 0
HomesStay U E counted name stepped advanced drained weight owners = (env : E) (feed feed' : FeedView) (card : CardView) (report : SettleReport) (cores cores' after : List (Core U E))
    → 1 ≤ length cores → IsHome drained weight feed.card cores → EpochRan counted name stepped advanced drained env feed feed' cores cores' → AreAlone cores'
    → Settles owners report feed'.card card cores' after → IsHome drained weight card after
