-- The rings between the card and a core that are made anew at a settle, and the buffers that are posted then.
use Rattle.std.specs.Prelude.{◌≡◌, ◌+◌, ◌<◌, ◌≤◌, ℕ, min, All, List, [], ◌++◌, length, slice_index_or, sum_by}
use Rattle.ix_mbuf.specs.declared.name.Name.{Name}
use Rattle.ix_mbuf.specs.Buffers.{Buffer, buffers_weight}
use Rattle.ix_mbuf.specs.Pools.{Stock}
use Rattle.ix_ring.specs.Views.{PutView}
use Rattle.ix_ring.specs.Ends.{IsRing, known, places, put_list, spare, taken}
use Rattle.ix_nic.specs.declared.offer.Counts.{Counts}
use Rattle.ix_nic.specs.Cards.{CardView, counts_of}
use Rattle.ix_nic.specs.Ports.{PortView, kept_count}
use Rattle.ix_core.specs.declared.turning.Core.{Core}
use Rattle.ix_core.specs.Homing.{AreNumbered}

-- a buffer of a pool, by its name: its home is the pool's core, and its slot is one of the pool's
abbrev pub IsOf : Stock → Name → Type 0
IsOf pool x = (x.id.home ≡ pool.home) × (x.id.slot < pool.n)

-- So many free buffers were put on a posting ring, or all that there are.
pub record Fills (most : ℕ) (pool pool' : Stock) (old new : PutView Buffer) : Type 0 where
  pub posts : List Buffer
  pub number : length posts ≡ min most (length pool.free)
  pub home : pool'.home ≡ pool.home
  pub slots : pool'.n ≡ pool.n
  pub put : put_list new ≡ put_list old ++ posts
  pub left : length pool'.free + length posts ≡ length pool.free
  pub own : All (λ b. IsOf pool b.name) posts
  pub still : All (λ x. IsOf pool x) pool'.free
  pub weight : (f : Name → ℕ) → sum_by f pool'.free + buffers_weight f posts ≡ sum_by f pool.free

-- So many were put so far.
pub record FillsSome (i : ℕ) (pool pool' : Stock) (old new : PutView Buffer) : Type 0 where
  pub posts : List Buffer
  pub number : length posts ≡ i
  pub home : pool'.home ≡ pool.home
  pub slots : pool'.n ≡ pool.n
  pub put : put_list new ≡ put_list old ++ posts
  pub room : spare old ≤ spare new + i
  pub left : length pool'.free + i ≡ length pool.free
  pub weight : (f : Name → ℕ) → sum_by f pool'.free + buffers_weight f posts ≡ sum_by f pool.free

-- the buffers that are posted to a core's ring as the card knows it, one that it keeps among them
abbrev pub posted_count : PortView → ℕ
posted_count p = length (known p.posts) + kept_count p.kept

-- and what they weigh, but for that one
abbrev pub posted_weight : (Name → ℕ) → PortView → ℕ
posted_weight f p = buffers_weight f (known p.posts)

module _ {U E : Type 0} where
  -- The rings between the card and a core at rest: both ends know all; nothing is on the receive ring or behind it; there are no more buffers posted
  -- than a ring has places.
  pub record IsResting (p : PortView) (c : Core U E) : Type 0 where
    pub items : IsRing p.ring c.items
    pub posts : IsRing c.posted p.posts
    pub items_places : places p.ring ≡ 512
    pub posts_places : places c.posted ≡ 512
    pub empty : put_list p.ring ≡ taken c.items
    pub none_behind : p.behind ≡ []
    pub met : put_list c.posted ≡ taken p.posts ++ known p.posts
    pub few : posted_count p ≤ 512

  -- Both rings are made anew: nothing is on the receive ring, of which all 512 places are free; on the posting ring are the buffers that were
  -- there, and behind them free ones, so that 512 are posted, or all that there are.
  pub record Renewed (p q : PortView) (x y : Core U E) : Type 0 where
    pub items : IsRing q.ring y.items
    pub posts : IsRing y.posted q.posts
    pub items_places : places q.ring ≡ 512
    pub posts_places : places y.posted ≡ 512
    pub none_put : put_list q.ring ≡ []
    pub none_taken : taken y.items ≡ []
    pub none_known : known y.items ≡ []
    pub room : spare q.ring ≡ 512
    pub filled : List Buffer
    pub all : known q.posts ≡ known p.posts ++ filled
    pub fresh : taken q.posts ≡ []
    pub put : put_list y.posted ≡ known q.posts
    pub posted : posted_count q ≡ min 512 (length y.pool.free + posted_count q)
    pub home : y.pool.home ≡ x.pool.home
    pub slots : y.pool.n ≡ x.pool.n
    pub left : length y.pool.free + length filled ≡ length x.pool.free
    pub own : All (λ b. IsOf x.pool b.name) filled
    pub still : All (λ n. IsOf x.pool n) y.pool.free
    pub weight : (f : Name → ℕ) → sum_by f y.pool.free + buffers_weight f filled ≡ sum_by f x.pool.free
    pub core_rest : y ≡ record x { pool = y.pool; items = y.items; posted = y.posted }
    pub port_rest : q ≡ record p { ring = q.ring; posts = q.posts }

  -- the card and all its cores, at rest
  pub record AreResting (ports : List PortView) (cores : List (Core U E)) : Type 0 where
    pub count : length ports ≡ length cores
    pub numbers : AreNumbered cores
    pub each : (c : ℕ) (p : PortView) (d : Core U E) → c < length cores → IsResting (slice_index_or ports c p) (slice_index_or cores c d)

  -- what is free in a core's pool
  abbrev pub free_weight : (Name → ℕ) → Core U E → ℕ
  free_weight f c = sum_by f c.pool.free

  -- The rings of the first cores were made anew.
  pub record RenewedSome (i : ℕ) (card card' : CardView) (cores cores' : List (Core U E)) : Type 0 where
    pub table : card'.table ≡ card.table
    pub ports : length card'.ports ≡ length card.ports
    pub count : length cores' ≡ length cores
    pub done : (c : ℕ) (p : PortView) (d : Core U E) → c < i
        → Renewed (slice_index_or card.ports c p) (slice_index_or card'.ports c p) (slice_index_or cores c d) (slice_index_or cores' c d)
    pub rest_ports : (c : ℕ) (p : PortView) → i ≤ c → slice_index_or card'.ports c p ≡ slice_index_or card.ports c p
    pub rest_cores : (c : ℕ) (d : Core U E) → i ≤ c → slice_index_or cores' c d ≡ slice_index_or cores c d
    pub weight : (f : Name → ℕ) → sum_by (free_weight f) cores' + sum_by (posted_weight f) card'.ports ≡ sum_by (free_weight f) cores + sum_by (posted_weight f) card.ports

  -- The rings of all cores were made anew.
  pub record AreRenewed (card card' : CardView) (cores cores' : List (Core U E)) : Type 0 where
    pub table : card'.table ≡ card.table
    pub ports : length card'.ports ≡ length card.ports
    pub count : length cores' ≡ length cores
    pub each : (c : ℕ) (p : PortView) (d : Core U E) → c < length cores
        → Renewed (slice_index_or card.ports c p) (slice_index_or card'.ports c p) (slice_index_or cores c d) (slice_index_or cores' c d)
    pub weight : (f : Name → ℕ) → sum_by (free_weight f) cores' + sum_by (posted_weight f) card'.ports ≡ sum_by (free_weight f) cores + sum_by (posted_weight f) card.ports

-- the counts of rings, in order, as a card tells them
pub record AreCounts (n : ℕ) (rings : List Counts) (card : CardView) : Type 0 where
  pub count : length rings ≡ n
  pub each : (c : ℕ) (p : PortView) (d : Counts) → c < n → slice_index_or rings c d ≡ counts_of (slice_index_or card.ports c p)
