-- Whose buffers are where, and how the numbers of a home add up.
use Rattle.std.specs.Prelude.{◌≡◌, ◌+◌, ◌<◌, ℕ, Bool, List, [], All, Some, length, slice_index_or}
use Rattle.ix_base.specs.declared.id.BufId.{BufId}
use Rattle.ix_base.specs.declared.id.Owned.{Owned}
use Rattle.ix_mbuf.specs.declared.name.Name.{Name}
use Rattle.ix_mbuf.specs.Buffers.{Buffer}
use Rattle.ix_mbuf.specs.Pools.{Stock}
use Rattle.ix_ring.specs.Ends.{known}
use Rattle.ix_desk.specs.Desks.{group_at}
use Rattle.ix_desk.specs.Groups.{unit_of}
use Rattle.ix_desk.specs.Views.{View}
use Rattle.ix_stack.specs.declared.work.Work.{Work}
use Rattle.ix_nic.specs.Cards.{CardView}
use Rattle.ix_nic.specs.Ports.{PortView}
use Rattle.ix_core.specs.declared.settling.SettleReport.{SettleReport}
use Rattle.ix_core.specs.declared.turning.Core.{Core}
use Rattle.ix_core.specs.Counting.{app_over, frames_over, held_over, queue_over}
use Rattle.ix_core.specs.Links.{IsDrained}
use Rattle.ix_core.specs.Renewing.{posted_count}
use Rattle.ix_core.specs.Settling.{Settles}
use Rattle.ix_feed.specs.Replays.{FeedView}
use Rattle.ix_feed.specs.Told.{used_on}
use Rattle.ix_epochs.specs.Epochs.{EpochRan}
use Rattle.ix_epochs.specs.Ready.{IsReady}
use Rattle.ix_homes.specs.Held.{held, made}

-- ## Whose buffers are posted
-- a buffer of a pool, by its id
abbrev pub IsIdOf : Stock → BufId → Type 0
IsIdOf pool i = (i.home ≡ pool.home) × (i.slot < pool.n)

-- The buffers that are posted to a core's ring, and the one that the card keeps, are the core's own.
pub record PortIsOwn {U E : Type 0} (p : PortView) (c : Core U E) : Type 0 where
  pub posted : All (λ (b : Buffer). IsIdOf c.pool b.name.id) (known p.posts)
  pub kept : (b : Buffer) → p.kept ≡ Some b → IsIdOf c.pool b.name.id

abbrev pub PortsAreOwn : {U E : Type 0} → CardView → List (Core U E) → Type 0
PortsAreOwn {U} {E} card cores = (c : ℕ) (p : PortView) (d : Core U E) → c < length cores → PortIsOwn (slice_index_or card.ports c p) (slice_index_or cores c d)

-- After an epoch they still are, and the accepted frames of a ring lie in buffers of its core.
pub record EpochKeepsOwn {U E : Type 0} (card' : CardView) (cores cores' : List (Core U E)) (used : ℕ → List BufId) : Type 0 where
  pub own : PortsAreOwn card' cores'
  pub frames : (c : ℕ) (d : Core U E) → c < length cores → All (λ i. IsIdOf (slice_index_or cores c d).pool i) (used c)

abbrev pub EpochsKeepOwn : (U E : Type 0) → (Work → Bool) → (Work → ℕ) → (U → List (ℕ × ℕ)) → (U → E → ℕ → List Work → U → Type 0) → (U → List Buffer → U → Type 0) → Type 0
EpochsKeepOwn U E counted name stepped advanced drained = (env : E) (feed feed' : FeedView) (cores cores' : List (Core U E)) → IsReady feed.card cores → IsReady feed'.card cores'
    → PortsAreOwn feed.card cores → (ran : EpochRan counted name stepped advanced drained env feed feed' cores cores') → EpochKeepsOwn feed'.card cores cores' (λ r. used_on r ran.feed.told)

-- After a settle they still are.
abbrev pub SettlesKeepOwn : Type 0 → Type 0 → Type 0
SettlesKeepOwn U E = (owners : U → ℕ → Owned) (report : SettleReport) (card card' : CardView) (cores cores' : List (Core U E)) → length card.ports ≡ length cores
    → PortsAreOwn card cores → Settles owners report card card' cores cores' → PortsAreOwn card' cores'

-- ## The numbers of a home
-- Each group has one piece at most on a core, which wasn't cut; no flow group came early; and each that is here has just handed out all that it
-- doesn't need any more.
pub record IsLevel {U : Type 0} (drained : U → List Buffer → U → Type 0) (v : View U Work) : Type 0 where
  pub size : length v.groups ≡ 512
  pub cut : (g : ℕ) → g < 512 → (group_at v g).cut ≡ []
  pub early : (g : ℕ) → g < 512 → (group_at v g).early ≡ []
  pub clean : (g : ℕ) (u : U) → g < 512 → unit_of (group_at v g) ≡ Some u → IsDrained drained u

-- Between epochs: nothing is to be given to a pool, what is free in a pool and what is posted are buffers of its core, and as much is held of
-- each buffer as was made.
pub record IsHome {U E : Type 0} (drained : U → List Buffer → U → Type 0) (weight : (Name → ℕ) → U → ℕ) (card : CardView) (cores : List (Core U E)) : Type 0 where
  pub ready : IsReady card cores
  pub level : (c : ℕ) (d : Core U E) → c < length cores → IsLevel drained (slice_index_or cores c d).desks
  pub none : (c : ℕ) (d : Core U E) → c < length cores → (slice_index_or cores c d).returns.items ≡ []
  pub free : (c : ℕ) (d : Core U E) → c < length cores → All (λ (x : Name). IsIdOf (slice_index_or cores c d).pool x.id) (slice_index_or cores c d).pool.free
  pub posted : PortsAreOwn card cores
  pub same : (f : BufId → ℕ) → held weight card cores (λ x. f x.id) ≡ made cores (λ x. f x.id)

-- all buffers of a home, by where they are
abbrev pub whole_home : {U E : Type 0} → (U → ℕ → Owned) → PortView → Core U E → List (Core U E) → ℕ
whole_home owners p c cores =
    (length c.pool.free + posted_count p)
    + (frames_over c.pool.home.0 cores + (held_over owners c.pool.home.0 cores + (app_over owners c.pool.home.0 cores + queue_over owners c.pool.home.0 cores)))

-- Then each buffer of a core is free in its pool, posted, in a frame that waits at a desk of some core, or owned by a flow group.
abbrev pub HomesAddUp : (U E : Type 0) → (U → List Buffer → U → Type 0) → ((Name → ℕ) → U → ℕ) → (U → ℕ → Owned) → Type 0
HomesAddUp U E drained weight owners = (card : CardView) (cores : List (Core U E)) → IsHome drained weight card cores
    → (c : ℕ) (p : PortView) (d : Core U E) → c < length cores → whole_home owners (slice_index_or card.ports c p) (slice_index_or cores c d) cores ≡ (slice_index_or cores c d).pool.n
