-- Free buffers that a core puts on its posting ring.
use Rattle.std.specs.Prelude.{◌≡◌, ◌≤◌, ◌+◌, ℕ, All, List, ◌++◌, length, sum_by}
use Rattle.ix_mbuf.specs.declared.name.Name.{Name}
use Rattle.ix_mbuf.specs.Buffers.{Buffer, buffers_weight}
use Rattle.ix_mbuf.specs.Pools.{Stock}
use Rattle.ix_ring.specs.Views.{PutView}
use Rattle.ix_ring.specs.Ends.{put_list}
use Rattle.ix_core.specs.Renewing.{IsOf}

-- free buffers were posted, at most so many
pub record Posts (most : ℕ) (pool pool' : Stock) (old new : PutView Buffer) (returns returns' : List Buffer) : Type 0 where
  pub posts : List Buffer
  pub home : pool'.home ≡ pool.home
  pub number : pool'.n ≡ pool.n
  pub put : put_list new ≡ put_list old ++ posts
  pub few : length posts ≤ most
  pub own : All (λ b. IsOf pool b.name) posts
  pub weight : (f : Name → ℕ) → sum_by f pool'.free + (buffers_weight f returns' + buffers_weight f posts) ≡ sum_by f pool.free + buffers_weight f returns
