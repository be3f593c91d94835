-- Buffers that are under way to their homes, and what it is to bring them there.
use Rattle.std.specs.Prelude.{◌≡◌, ◌+◌, ◌<◌, ◌≤◌, ℕ, true, false, List, [], ◌∷◌, ◌++◌, All, length, slice_index_or, sum_by, take}
use mathlib.Core.List.{IsPrefix}
use Rattle.ix_base.specs.declared.id.BufId.{BufId}
use Rattle.ix_mbuf.specs.declared.name.Name.{Name}
use Rattle.ix_mbuf.specs.Buffers.{Buffer, buffers_weight}
use Rattle.ix_mbuf.specs.Owners.{one_if, times}
use Rattle.ix_mbuf.specs.Pools.{all_names, is_out_of}
use Rattle.ix_ring.specs.Views.{TakeView}
use Rattle.ix_ring.specs.Ends.{known, taken, SameTakeEnd}
use Rattle.ix_desk.specs.Pieces.{joined}
use Rattle.ix_core.specs.declared.link.Link.{Link}
use Rattle.ix_core.specs.declared.turning.Core.{Core}
use Rattle.ix_core.specs.Landing.{home_in, ship_in}

-- Up to a place each element of a list stands in R to what it was, and from there on each is what it was.
pub record Passed {X : Type 0} (R : X → X → Type 0) (i : ℕ) (old new : List X) : Type 0 where
  pub count : length new ≡ length old
  pub done : (k : ℕ) (d : X) → k < i → R (slice_index_or old k d) (slice_index_or new k d)
  pub rest : (k : ℕ) (d : X) → i ≤ k → slice_index_or new k d ≡ slice_index_or old k d

-- Each element of a list stands in R to what it was.
pub record EachIs {X : Type 0} (R : X → X → Type 0) (old new : List X) : Type 0 where
  pub count : length new ≡ length old
  pub each : (k : ℕ) (d : X) → k < length old → R (slice_index_or old k d) (slice_index_or new k d)

-- Up to a place the elements of a list were rid of the buffers that return there, which stand behind those from before, in order.
pub record GatheredSome {X : Type 0} (R : X → X → Type 0) (returns : X → List Buffer) (i : ℕ) (old new : List X) (before after : List Buffer) : Type 0 where
  pub passed : Passed R i old new
  pub bufs : after ≡ before ++ joined returns (take i old)

-- So many of the items of a ring that were known were taken, and the buffers in them stand behind those from before; the rest are known still.
pub record TookSome {T : Type 0} (bufs_in : T → List Buffer) (i : ℕ) (old new : TakeView T) (before after : List Buffer) : Type 0 where
  pub items : List T
  pub rest : List T
  pub split : known old ≡ items ++ rest
  pub number : length items ≡ i
  pub took : taken new ≡ taken old ++ items
  pub still : IsPrefix rest (known new)
  pub bufs : after ≡ before ++ joined bufs_in items

module _ {U E : Type 0} where
  -- the buffers that return over a link: in messages that are known to be on the ring from the other core, and in those that wait for a place
  -- on the ring to it
  abbrev pub link_returns : Link U E → List Buffer
  link_returns l = joined home_in (known l.take) ++ joined home_in l.waiting.items

  -- the buffers that return at a core: over its links, and those that are to be given to a pool
  abbrev pub core_returns : Core U E → List Buffer
  core_returns c = joined link_returns c.links.items ++ c.returns.items

  -- no flow group is under way over a link
  pub record HasNoShips (l : Link U E) : Type 0 where
    pub coming : joined ship_in (known l.take) ≡ []
    pub going : joined ship_in l.waiting.items ≡ []

  abbrev pub HaveNoShips : List (Link U E) → Type 0
  HaveNoShips links = (p : ℕ) (e : Link U E) → p < length links → HasNoShips (slice_index_or links p e)

  -- Every message that was known to be on the ring from the other core was taken, and none waits for the ring to it.
  pub record LinkEmptied (old new : Link U E) : Type 0 where
    pub ring : SameTakeEnd old.take new.take
    pub took : taken new.take ≡ taken old.take ++ known old.take
    pub waits : new.waiting.items ≡ []
    pub rest : new ≡ record old { take = new.take; waiting = new.waiting }

  -- Nothing returns at a core any more.
  pub record CoreEmptied (old new : Core U E) : Type 0 where
    pub links : EachIs LinkEmptied old.links.items new.links.items
    pub returns : new.returns.items ≡ []
    pub rest : new ≡ record old { links = new.links; returns = new.returns }

  -- no flow group is under way between cores
  abbrev pub NoShipsAmong : List (Core U E) → Type 0
  NoShipsAmong cores = (c : ℕ) (d : Core U E) → c < length cores → HaveNoShips (slice_index_or cores c d).links.items

  -- what is free in a core's pool, and what is to be given to it
  abbrev pub stock_weight : (Name → ℕ) → Core U E → ℕ
  stock_weight f c = sum_by f c.pool.free + buffers_weight f c.returns.items

  -- A buffer that is out of a core's pool is given to it. Another is kept, to be tried again.
  pub data TakesBack (b : Buffer) (old new : Core U E) : Type 0 where
    given_back : is_out_of old.pool b.name.id ≡ true → new ≡ record old { pool = record old.pool { free = old.pool.free ++ b.name ∷ [] } } → TakesBack b old new
    kept_back : is_out_of old.pool b.name.id ≡ false → new.returns.items ≡ old.returns.items ++ b ∷ [] → new ≡ record old { returns = new.returns } → TakesBack b old new

  -- a core of which only the free buffers and those that are to be given to a pool change
  pub record CoreHomed (old new : Core U E) : Type 0 where
    pub home : new.pool.home ≡ old.pool.home
    pub number : new.pool.n ≡ old.pool.n
    pub rest : new ≡ record old { pool = new.pool; returns = new.returns }

  -- the cores stand in order, by the numbers of their pools
  abbrev pub AreNumbered : List (Core U E) → Type 0
  AreNumbered cores = (c : ℕ) (d : Core U E) → c < length cores → (slice_index_or cores c d).pool.home.0 ≡ c

  -- The free buffers and those that return are buffers of the pools, no more of each than there are.
  abbrev pub AreOwn : List (Core U E) → Type 0
  AreOwn cores = (x : BufId) → sum_by (λ c. times x c.pool.free) cores + buffers_weight (one_if x) (joined core_returns cores) ≤ sum_by (λ c. times x (all_names c.pool.home c.pool.n)) cores

  -- what is still to be given to a pool is out of none
  abbrev pub NoneOut : List (Core U E) → Type 0
  NoneOut cores = (c h : ℕ) (d e : Core U E) → c < length cores → h < length cores
      → All (λ b. is_out_of (slice_index_or cores h e).pool b.name.id ≡ false) (slice_index_or cores c d).returns.items

  -- Buffers were brought home: each that is out of the pool of its home is in it again.
  pub record AllHomed (bufs : List Buffer) (old new : List (Core U E)) : Type 0 where
    pub count : length new ≡ length old
    pub cores : (c : ℕ) (d : Core U E) → CoreHomed (slice_index_or old c d) (slice_index_or new c d)
    pub weight : (f : Name → ℕ) → sum_by (stock_weight f) new ≡ sum_by (stock_weight f) old + buffers_weight f bufs
    pub none : NoneOut old → NoneOut new
