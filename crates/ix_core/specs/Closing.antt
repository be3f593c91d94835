-- The close of a play: what it needs, what it leaves of the card and the cores that it is lent, and what it answers.
use Rattle.std.specs.Prelude.{◌≡◌, ◌≢◌, ◌+◌, ◌<◌, ◌≤◌, ℕ, zero, suc, List, [], ◌∷◌, ◌++◌, None, length, map, option_to_list, slice_index_or, sum_by, take}
use Rattle.ix_base.specs.declared.id.BufId.{BufId}
use Rattle.ix_base.specs.declared.id.GroupId.{GroupId}
use Rattle.ix_mbuf.specs.declared.name.Name.{Name}
use Rattle.ix_mbuf.specs.Buffers.{Buffer, buffers_weight}
use Rattle.ix_mbuf.specs.Owners.{at_home, one_at, one_if, times}
use Rattle.ix_mbuf.specs.Pools.{all_names}
use Rattle.ix_ring.specs.Ends.{known, taken, SameTakeEnd}
use Rattle.ix_desk.specs.Pieces.{joined}
use Rattle.ix_desk.specs.Groups.{unit_of, untaken, waits}
use Rattle.ix_desk.specs.Desks.{group_at, groups_wait, with_group}
use Rattle.ix_nic.specs.Cards.{CardView}
use Rattle.ix_nic.specs.Ports.{PortView}
use Rattle.ix_core.specs.declared.closing.Closed.{Closed}
use Rattle.ix_core.specs.declared.turning.Core.{Core}
use Rattle.ix_core.specs.Homing.{EachIs, LinkEmptied, NoShipsAmong, Passed, TookSome, core_returns, stock_weight}
use Rattle.ix_core.specs.Meeting.{AllAreTold, AreInOrder}
use Rattle.ix_core.specs.Renewing.{free_weight, posted_count}

-- ## What the card has
-- the buffers that are posted to a core's ring: the one that the card keeps, and those on the ring
abbrev pub port_holds : PortView → List Buffer
port_holds p = option_to_list p.kept ++ known p.posts

-- So many of the buffers that are known to be on a posting ring were taken.
pub record RecallsSome (i : ℕ) (p q : PortView) (before after : List Buffer) : Type 0 where
  pub ring : SameTakeEnd p.posts q.posts
  pub so : TookSome (λ b. b ∷ []) i p.posts q.posts before after
  pub rest : q ≡ record p { posts = q.posts; posted = q.posted }

-- All buffers that were posted to a core's ring were taken, and all else of the port stays.
pub record Recalled (p q : PortView) : Type 0 where
  pub ring : SameTakeEnd p.posts q.posts
  pub took : taken q.posts ≡ taken p.posts ++ known p.posts
  pub rest : q ≡ record p { posts = q.posts; kept = None; posted = q.posted }

-- no more buffers are posted to a ring than it has places
abbrev pub FewArePosted : List PortView → Type 0
FewArePosted ports = (c : ℕ) (p : PortView) → c < length ports → posted_count (slice_index_or ports c p) ≤ 512

-- the buffers that were posted to any ring were taken, and stand behind those from before, in order
pub record AllAreRecalled (card card' : CardView) (before after : List Buffer) : Type 0 where
  pub table : card'.table ≡ card.table
  pub ports : EachIs Recalled card.ports card'.ports
  pub bufs : after ≡ before ++ joined port_holds card.ports

-- ## Flow groups that end
module _ {U : Type 0} (finished : U → List Buffer → U → Type 0) where
  -- Units, each with the number of its group, handed out all their buffers; these are joined, in order.
  abbrev pub AllFinished : List (ℕ × U) → List (GroupId × U) → List Buffer → Type 0
  AllFinished [] [] out = out ≡ []
  AllFinished [] (r ∷ rs) out = ⊥
  AllFinished (u ∷ us) [] out = ⊥
  AllFinished (u ∷ us) (r ∷ rs) out = (bufs : List Buffer) × (rest : List Buffer) × ((r.0.0 ≡ u.0) × finished u.1 bufs r.1 × (out ≡ bufs ++ rest) × AllFinished us rs rest)

  -- These units ended, and stand behind those from before; so do their buffers.
  pub record Finishes (units : List (ℕ × U)) (old new : List (GroupId × U)) (before after : List Buffer) : Type 0 where
    pub groups : List (GroupId × U)
    pub out : List Buffer
    pub all : AllFinished units groups out
    pub grown : new ≡ old ++ groups
    pub bufs : after ≡ before ++ out

module _ {U E : Type 0} where
  -- The unit of a group is taken away from a core, if it is there.
  pub record GroupEnded (g : ℕ) (x y : Core U E) : Type 0 where
    pub desks : y.desks ≡ with_group x.desks g (untaken (group_at x.desks g))
    pub rest : y ≡ record x { desks = y.desks }

  -- the units of a group that are here
  abbrev pub units_here : ℕ → Core U E → List U
  units_here g c = option_to_list (unit_of (group_at c.desks g))

  -- those on any of the cores, in order, each with the number of its group
  abbrev pub units_of : ℕ → List (Core U E) → List (ℕ × U)
  units_of g cores = map (λ u. (g, u)) (joined (units_here g) cores)

  -- those of the groups below a number, by rising group
  unfoldable pub units_below : List (Core U E) → ℕ → List (ℕ × U)
  units_below cores zero = []
  units_below cores (suc n) = units_below cores n ++ units_of n cores

  -- no item of a group waits at a desk
  abbrev pub NothingWaits : ℕ → List (Core U E) → Type 0
  NothingWaits g cores = (c : ℕ) (d : Core U E) → c < length cores → waits (group_at (slice_index_or cores c d).desks g) ≡ []

  -- The numbers of free buffers of the first cores, in order. Each pool has buffers of its own core alone.
  pub record PoolsAre (n : ℕ) (pools : List ℕ) (cores : List (Core U E)) : Type 0 where
    pub count : length pools ≡ n
    pub each : (c : ℕ) (d : Core U E) (m : ℕ) → c < n → slice_index_or pools c m ≡ length (slice_index_or cores c d).pool.free
    pub own : (c : ℕ) (d : Core U E) → c < n → at_home (slice_index_or cores c d).pool.home.0 (slice_index_or cores c d).pool.free ≡ length (slice_index_or cores c d).pool.free
    pub foreign : (c : ℕ) (d : Core U E) (home : ℕ) → c < n → home ≢ (slice_index_or cores c d).pool.home.0 → at_home home (slice_index_or cores c d).pool.free ≡ 0

  -- the units of a group were taken from the first cores and ended
  pub record GroupEnds (finished : U → List Buffer → U → Type 0) (g i : ℕ) (cores cores' : List (Core U E)) (old new : List (GroupId × U)) (before after : List Buffer) : Type 0 where
    pub passed : Passed (GroupEnded g) i cores cores'
    pub finishes : Finishes finished (units_of g (take i cores)) old new before after

  -- the units of the groups below a number are taken away from a core
  pub record DesksEnded (n : ℕ) (x y : Core U E) : Type 0 where
    pub core : y.desks.core ≡ x.desks.core
    pub failed : y.desks.failed ≡ x.desks.failed
    pub done : (g : ℕ) → g < n → group_at y.desks g ≡ untaken (group_at x.desks g)
    pub later : (g : ℕ) → n ≤ g → group_at y.desks g ≡ group_at x.desks g
    pub rest : y ≡ record x { desks = y.desks }

  -- the units of the groups below a number were taken from all cores and ended
  pub record GroupsEnd (finished : U → List Buffer → U → Type 0) (n : ℕ) (cores cores' : List (Core U E)) (old new : List (GroupId × U)) (before after : List Buffer) : Type 0 where
    pub each : EachIs (DesksEnded n) cores cores'
    pub finishes : Finishes finished (units_below cores n) old new before after

  -- ## The close
  -- A card and all its cores, of which there is one at least, in order, after a meeting; no flow group is under way and no item waits at a desk.
  pub record CanClose (card : CardView) (cores : List (Core U E)) : Type 0 where
    pub order : AreInOrder card cores
    pub told : AllAreTold card cores
    pub some : 1 ≤ length cores
    pub few : FewArePosted card.ports
    pub no_ships : NoShipsAmong cores
    pub no_items : (c : ℕ) (d : Core U E) → c < length cores → groups_wait (slice_index_or cores c d).desks ≡ []

  -- What the close leaves of a core.
  pub record CoreClosed (x y : Core U E) : Type 0 where
    pub links : EachIs LinkEmptied x.links.items y.links.items
    pub core : y.desks.core ≡ x.desks.core
    pub failed : y.desks.failed ≡ x.desks.failed
    pub groups : (g : ℕ) → g < 512 → group_at y.desks g ≡ untaken (group_at x.desks g)
    pub home : y.pool.home ≡ x.pool.home
    pub slots : y.pool.n ≡ x.pool.n
    pub rest : y ≡ record x { pool = y.pool; returns = y.returns; links = y.links; desks = y.desks }

  -- what stands anywhere where a play is closed: free in the pools, under way to them, posted, or owned by the units that are here
  abbrev pub close_weight : ((Name → ℕ) → U → ℕ) → (Name → ℕ) → CardView → List (Core U E) → ℕ
  close_weight weight f card cores =
      (sum_by (free_weight f) cores + buffers_weight f (joined core_returns cores)) + (buffers_weight f (joined port_holds card.ports) + sum_by (λ u. weight f u.1) (units_below cores 512))

  -- They are buffers of the pools, no more of each than there are.
  abbrev pub AllAreOwn : ((Name → ℕ) → U → ℕ) → CardView → List (Core U E) → Type 0
  AllAreOwn weight card cores = (x : BufId) → close_weight weight (one_if x) card cores ≤ sum_by (λ c. times x (all_names c.pool.home c.pool.n)) cores

  -- As many buffers of each core are anywhere as its pool has slots.
  abbrev pub AllAreThere : ((Name → ℕ) → U → ℕ) → CardView → List (Core U E) → Type 0
  AllAreThere weight card cores = (c : ℕ) (d : Core U E) → c < length cores → close_weight weight (one_at (slice_index_or cores c d).pool.home.0) card cores ≡ (slice_index_or cores c d).pool.n

  -- What the close does, and what it answers.
  pub record Closes (finished : U → List Buffer → U → Type 0) (weight : (Name → ℕ) → U → ℕ) (closed : Closed U E) (card card' : CardView) (cores cores' : List (Core U E)) : Type 0 where
    pub table : card'.table ≡ card.table
    pub ports : EachIs Recalled card.ports card'.ports
    pub each : EachIs CoreClosed cores cores'
    -- the groups in rising order, each as it ended
    pub groups : (out : List Buffer) × AllFinished finished (units_below cores 512) closed.groups.items out
    -- no buffer is lost and none is made: all are in the pools, where all were the pools' own
    pub whole : (f : Name → ℕ) → sum_by (stock_weight f) cores' ≡ close_weight weight f card cores
    pub none : AllAreOwn weight card cores → (c : ℕ) (d : Core U E) → c < length cores → (slice_index_or cores' c d).returns.items ≡ []
    -- the buffers in the pool of each core
    pub pools : PoolsAre (length cores) closed.pools.items cores'
    -- all of them, where all were there
    pub full : AllAreOwn weight card cores → AllAreThere weight card cores → (c : ℕ) (d : Core U E) (m : ℕ) → c < length cores → slice_index_or closed.pools.items c m ≡ (slice_index_or cores c d).pool.n
