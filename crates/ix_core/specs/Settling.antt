-- A settle: what it needs, what it leaves of the card and the cores that it is lent, and what it answers.
use Rattle.std.specs.Prelude.{◌≡◌, ◌+◌, ◌-◌, ◌<◌, ◌≤◌, ℕ, Bool, true, false, min, All, List, [], ◌++◌, length, slice_index_or, sum_by}
use Rattle.std.specs.List.{list_any}
use Rattle.ix_base.specs.declared.id.Owned.{Owned}
use Rattle.ix_mbuf.specs.declared.name.Name.{Name}
use Rattle.ix_mbuf.specs.Buffers.{Buffer, buffers_weight}
use Rattle.ix_ring.specs.Ends.{IsRing, known, places, put_list, spare, taken}
use Rattle.ix_desk.specs.Pieces.{joined}
use Rattle.ix_nic.specs.declared.offer.Counts.{Counts}
use Rattle.ix_nic.specs.Cards.{CardView}
use Rattle.ix_nic.specs.Ports.{PortView, posted_now}
use Rattle.ix_core.specs.declared.counting.Home.{Home}
use Rattle.ix_core.specs.declared.link.Link.{Link}
use Rattle.ix_core.specs.declared.settling.SettleReport.{SettleReport}
use Rattle.ix_core.specs.declared.turning.Core.{Core}
use Rattle.ix_core.specs.Counting.{home_of}
use Rattle.ix_core.specs.Homing.{AreOwn, EachIs, LinkEmptied, NoShipsAmong, core_returns, stock_weight}
use Rattle.ix_core.specs.Meeting.{AllAreTold, AreInOrder, link_at}
use Rattle.ix_core.specs.Renewing.{IsOf, free_weight, posted_count, posted_weight}

module _ {U E : Type 0} where
  -- The rings between the card and a core are as at the end of an epoch: of 512 places each, nothing on the receive ring or behind it, and no
  -- more buffers posted than a ring has places.
  pub record PortIsDone (p : PortView) (c : Core U E) : Type 0 where
    pub items_places : places p.ring ≡ 512
    pub posts_places : places c.posted ≡ 512
    pub none_on : put_list p.ring ≡ taken c.items
    pub none_behind : p.behind ≡ []
    pub few : posted_count p ≤ 512

  -- A card and all its cores, of which there is one at least, in order, after a meeting; the epoch is over, and no flow group is under way.
  pub record CanSettle (card : CardView) (cores : List (Core U E)) : Type 0 where
    pub order : AreInOrder card cores
    pub told : AllAreTold card cores
    pub some : 1 ≤ length cores
    pub done : (c : ℕ) (p : PortView) (d : Core U E) → c < length cores → PortIsDone (slice_index_or card.ports c p) (slice_index_or cores c d)
    pub no_ships : NoShipsAmong cores

  -- What a settle leaves of a core and the card's side of its rings.
  pub record CoreSettled (p q : PortView) (x y : Core U E) : Type 0 where
    -- the receive ring: a ring of 512 free places, on which and behind which there is nothing
    pub items : IsRing q.ring y.items
    pub items_places : places q.ring ≡ 512
    pub none_put : put_list q.ring ≡ []
    pub none_taken : taken y.items ≡ []
    pub none_known : known y.items ≡ []
    pub room : spare q.ring ≡ 512
    -- the posting ring: a ring of 512 places with the buffers that were posted, and free ones of the core behind them. With one that the card
    -- keeps 512 are posted, or all that the core has. Those that are posted now are the core's own.
    pub posts : IsRing y.posted q.posts
    pub posts_places : places y.posted ≡ 512
    pub filled : List Buffer
    pub own : All (λ b. IsOf x.pool b.name) filled
    pub all : known q.posts ≡ known p.posts ++ filled
    pub fresh : taken q.posts ≡ []
    pub put : put_list y.posted ≡ known q.posts
    pub posted : posted_count q ≡ min 512 (length y.pool.free + posted_count q)
    -- the mesh: what was on it is taken, and nothing waits for it
    pub links : EachIs LinkEmptied x.links.items y.links.items
    -- the pool is that of the same core, with as many slots, and what is free in it is its own
    pub home : y.pool.home ≡ x.pool.home
    pub slots : y.pool.n ≡ x.pool.n
    pub still : All (λ n. IsOf x.pool n) y.pool.free
    -- desks, and all else, stay; the counts of the ring begin anew
    pub core_rest : y ≡ record x { pool = y.pool; returns = y.returns; items = y.items; links = y.links; posted = y.posted }
    pub port_rest : q ≡ record p { ring = q.ring; posts = q.posts; items = 0; frames = 0; posted = posted_now q; ended = false }

  -- no message is on the mesh
  abbrev pub MeshIsEmpty : List (Core U E) → Type 0
  MeshIsEmpty cores = (a b : ℕ) (d : Core U E) (e : Link U E) → a < b → b < length cores
      → (put_list (link_at cores a (b - 1) d e).put ≡ taken (link_at cores b a d e).take) × (put_list (link_at cores b a d e).put ≡ taken (link_at cores a (b - 1) d e).take)

  -- What a settle does, and what it answers.
  pub record Settles (owners : U → ℕ → Owned) (report : SettleReport) (card card' : CardView) (cores cores' : List (Core U E)) : Type 0 where
    pub table : card'.table ≡ card.table
    pub ports : length card'.ports ≡ length card.ports
    pub count : length cores' ≡ length cores
    pub each : (c : ℕ) (p : PortView) (d : Core U E) → c < length cores
        → CoreSettled (slice_index_or card.ports c p) (slice_index_or card'.ports c p) (slice_index_or cores c d) (slice_index_or cores' c d)
    pub order : AreInOrder card' cores'
    -- no message is left on the mesh, and no buffer is still to be given to a pool, where those that returned were out of the pools
    pub mesh : MeshIsEmpty cores'
    pub none : AreOwn cores → (c : ℕ) (d : Core U E) → c < length cores → (slice_index_or cores' c d).returns.items ≡ []
    -- no buffer is lost and none is made: what returned is in the pools, or posted from them
    pub weight : (f : Name → ℕ) → sum_by (stock_weight f) cores' + sum_by (posted_weight f) card'.ports
        ≡ (sum_by (free_weight f) cores + sum_by (posted_weight f) card.ports) + buffers_weight f (joined core_returns cores)
    -- the counts of each ring: the buffers that are posted now, and the frames and items since the settle before
    pub rings_count : length report.rings.items ≡ length cores
    pub rings : (c : ℕ) (p : PortView) (r : Counts) → c < length cores → slice_index_or report.rings.items c r
        ≡ record { posted = posted_now (slice_index_or card'.ports c p); frames = (slice_index_or card.ports c p).frames; items = (slice_index_or card.ports c p).items }
    -- where the buffers of each core are now
    pub homes_count : length report.homes.items ≡ length cores
    pub homes : (c : ℕ) (p : PortView) (d : Core U E) (h : Home) → c < length cores → slice_index_or report.homes.items c h
        ≡ home_of owners cores' (slice_index_or cores' c d) (posted_now (slice_index_or card'.ports c p))

  abbrev pub any_failed : List (Core U E) → Bool
  any_failed cores = list_any (λ c. c.failed) cores

  abbrev pub AllFailed : List (Core U E) → Type 0
  AllFailed cores = (c : ℕ) (d : Core U E) → c < length cores → (slice_index_or cores c d).failed ≡ true
