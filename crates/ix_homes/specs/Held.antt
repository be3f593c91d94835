-- What pools, posting rings and cores hold between epochs, and what an epoch and a settle make of it.
use Rattle.std.specs.Prelude.{◌≡◌, ◌+◌, ◌*◌, ◌<◌, ◌≤◌, ℕ, Bool, List, length, count_by, sum_by}
use Rattle.ix_base.specs.declared.id.BufId.{BufId}
use Rattle.ix_base.specs.declared.id.Owned.{Owned}
use Rattle.ix_mbuf.specs.declared.name.Name.{Name}
use Rattle.ix_mbuf.specs.Buffers.{Buffer}
use Rattle.ix_mbuf.specs.Owners.{maybe, same_id, times, weigh}
use Rattle.ix_mbuf.specs.Pools.{all_names}
use Rattle.ix_lines.specs.declared.types.EntryLine.{EntryLine}
use Rattle.ix_stack.specs.declared.work.Work.{Work}
use Rattle.ix_nic.specs.Cards.{CardView}
use Rattle.ix_nic.specs.Ports.{PortView}
use Rattle.ix_core.specs.declared.settling.SettleReport.{SettleReport}
use Rattle.ix_core.specs.declared.turning.Core.{Core}
use Rattle.ix_core.specs.Homing.{AreOwn}
use Rattle.ix_core.specs.Renewing.{posted_weight}
use Rattle.ix_core.specs.Settling.{Settles}
use Rattle.ix_feed.specs.Replays.{FeedView}
use Rattle.ix_feed.specs.Told.{used_on}
use Rattle.ix_uses.specs.Uses.{AreFilled}
use Rattle.ix_epochs.specs.Epochs.{EpochRan}
use Rattle.ix_epochs.specs.Ready.{IsReady}
use Rattle.ix_epochs.specs.Rest.{NothingIsOnRings}
use Rattle.ix_epochs.specs.Weights.{AreWhole, cores_weight}

-- the buffer that the card keeps for the next frame of a core
abbrev pub kept_weight : (Name → ℕ) → PortView → ℕ
kept_weight f p = maybe (λ (b : Buffer). f b.name) p.kept

module _ {U E : Type 0} (weight : (Name → ℕ) → U → ℕ) where
  -- what all cores hold, and what is posted to the card, one that it keeps among it
  abbrev pub held : CardView → List (Core U E) → (Name → ℕ) → ℕ
  held card cores f = cores_weight weight f cores + (sum_by (posted_weight f) card.ports + sum_by (kept_weight f) card.ports)

-- all buffers of the pools, in their first use
abbrev pub made : {U E : Type 0} → List (Core U E) → (Name → ℕ) → ℕ
made cores f = sum_by (λ c. weigh f (all_names c.pool.home c.pool.n)) cores

-- Over an epoch some buffers were filled, among them those of the frames that were accepted; no other came or went.
pub record EpochFills {U E : Type 0} (weight : (Name → ℕ) → U → ℕ) (told : List EntryLine) (card card' : CardView) (cores cores' : List (Core U E)) : Type 0 where
  pub fills : List Name
  pub filled : AreFilled fills (held weight card cores) (held weight card' cores')
  pub few : length fills ≤ length cores * length told
  pub among : (r : ℕ) (i : BufId) → r < length cores → count_by (same_id i) (used_on r told) ≤ times i fills

-- ## Laws
abbrev pub EpochsFill : (U E : Type 0) → (Work → Bool) → (Work → ℕ) → (U → List (ℕ × ℕ)) → (U → E → ℕ → List Work → U → Type 0) → (U → List Buffer → U → Type 0) → ((Name → ℕ) → U → ℕ) → Type 0
EpochsFill U E counted name stepped advanced drained weight = (env : E) (feed feed' : FeedView) (cores cores' : List (Core U E)) → AreWhole cores → IsReady feed.card cores
    → (ran : EpochRan counted name stepped advanced drained env feed feed' cores cores') → EpochFills weight ran.feed.told feed.card feed'.card cores cores'

-- A settle loses nothing and makes nothing.
abbrev pub SettlesHold : (U E : Type 0) → ((Name → ℕ) → U → ℕ) → Type 0
SettlesHold U E weight = (owners : U → ℕ → Owned) (report : SettleReport) (card card' : CardView) (cores cores' : List (Core U E)) → IsReady card cores → NothingIsOnRings cores
    → Settles owners report card card' cores cores' → (f : Name → ℕ) → held weight card' cores' f ≡ held weight card cores f

-- Where as much is held of each buffer as was made, what is free and what returns are buffers of the pools.
abbrev pub HeldIsOwn : (U E : Type 0) → ((Name → ℕ) → U → ℕ) → Type 0
HeldIsOwn U E weight = (card : CardView) (cores : List (Core U E)) → IsReady card cores → NothingIsOnRings cores
    → ((f : BufId → ℕ) → held weight card cores (λ x. f x.id) ≡ made cores (λ x. f x.id)) → AreOwn cores
