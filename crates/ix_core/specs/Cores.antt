-- What turns of its own make of a core.
use Rattle.std.specs.Prelude.{◌≡◌, ◌≤◌, ◌+◌, ℕ, Bool, true, false, List, [], ◌++◌, All, count_by, length, map, sum_by}
use Rattle.ix_base.specs.declared.id.CoreId.{CoreId}
use Rattle.ix_base.specs.declared.id.GroupId.{GroupId}
use Rattle.ix_mbuf.specs.declared.name.Name.{Name}
use Rattle.ix_mbuf.specs.Buffers.{Buffer, buffers_weight}
use Rattle.ix_mbuf.specs.Pools.{Stock, is_out_of}
use Rattle.ix_ring.specs.Ends.{put_list, taken, SamePutEnd, SameTakeEnd}
use Rattle.ix_desk.specs.Desks.{NothingDone, group_at, opened}
use Rattle.ix_desk.specs.Pieces.{joined}
use Rattle.ix_stack.specs.declared.work.Work.{Work}
use Rattle.ix_stack.specs.declared.item.Item.{Item}
use Rattle.ix_stack.specs.Items.{is_frame}
use Rattle.ix_core.specs.declared.message.CoreEnds.{CoreEnds}
use Rattle.ix_core.specs.declared.turning.Core.{Core}
use Rattle.ix_history.specs.Events.{Parcel}
use Rattle.ix_history.specs.Run.{Run}
use Rattle.ix_core.specs.Items.{ring_item}
use Rattle.ix_core.specs.Landing.{parcel_of}
use Rattle.ix_core.specs.Renewing.{IsOf}
use Rattle.ix_core.specs.Runs.{works_in}
use Rattle.ix_core.specs.Links.{AllBehind, AreOpened, LinksRan, SameLinks, all_of, buffer_left, cores_of, homes_weight, parcel_lost}

-- the same core: its number, its bound of a batch, and its ends of the same rings
pub record SameEnds {U E : Type 0} (old new : Core U E) : Type 0 where
  pub home : new.pool.home ≡ old.pool.home
  pub batch : new.batch ≡ old.batch
  pub items : SameTakeEnd old.items new.items
  pub posted : SamePutEnd old.posted new.posted
  pub links : SameLinks old.links.items new.links.items

-- No flow group is left that is to leave, messages wait only where their ring gave one back, and what is kept aside is not out of the pool.
pub record LeavesNothing {U E : Type 0} (new : Core U E) : Type 0 where
  pub units : NothingDone new.desks
  pub messages : AllBehind new.links.items
  pub aside : All (λ b. is_out_of new.pool b.name.id ≡ false) new.returns.items

-- a core at the opening, with these flow groups at home, over these ends
pub record IsOpened {U E : Type 0} (id : CoreId) (pool : Stock) (home : List (GroupId × U)) (ends : CoreEnds U E) (batch : ℕ) (new : Core U E) : Type 0 where
  pub batch_is : new.batch ≡ batch
  pub failed : new.failed ≡ false
  pub pool_is : new.pool ≡ pool
  pub returns : new.returns.items ≡ []
  pub items : new.items ≡ ends.items
  pub came : new.came.items ≡ []
  pub core : new.desks.core ≡ id.0
  pub working : new.desks.failed ≡ false
  pub groups : length new.desks.groups ≡ 512
  pub desks : (g : ℕ) → group_at new.desks g ≡ opened home g
  pub links : AreOpened ends.mesh.items new.links.items
  pub lost : new.lost.items ≡ []
  pub posted : new.posted ≡ ends.posted

module _ {U E : Type 0} (counted : Work → Bool) (name : Work → ℕ) (stepped : U → List (ℕ × ℕ)) (advanced : U → E → ℕ → List Work → U → Type 0) (drained : U → List Buffer → U → Type 0) (env : E) where
  -- Turns that found memory.
  pub record Ran (old new : Core U E) : Type 0 where
    -- what was taken from the receive ring, and what of it went to the desks
    pub items : List Item
    pub dealt : List Item
    pub took : taken new.items ≡ taken old.items ++ items
    pub queue : old.came.items ++ items ≡ dealt ++ new.came.items
    -- the flow groups that landed, each from the core at a place among the links; the buffers that flow groups gave free; the flow groups that left
    pub ins : List (ℕ × Parcel U Work)
    pub frees : List (List Buffer)
    pub outs : List (Parcel U Work)
    pub run : Run counted name stepped advanced drained env old.desks new.desks (map ring_item dealt) ins frees outs
    -- each batch was within the core's bound
    pub bounds : All (λ max. max ≤ old.batch) (works_in run.events)
    pub links : LinksRan ins (all_of frees) outs old.links.items new.links.items
    pub lost : map parcel_of new.lost.items ≡ map parcel_of old.lost.items ++ joined (parcel_lost (cores_of old.links.items)) outs
    -- the buffers that were posted, the core's own and no more than frames were taken
    pub posts : List Buffer
    pub own : All (λ b. IsOf old.pool b.name) posts
    pub put : put_list new.posted ≡ put_list old.posted ++ posts
    pub few : length posts ≤ count_by is_frame items
    -- the pool, and what is to be given to it
    pub home : new.pool.home ≡ old.pool.home
    pub number : new.pool.n ≡ old.pool.n
    pub weight : (f : Name → ℕ) → (sum_by f new.pool.free + buffers_weight f new.returns.items) + (buffers_weight f posts + homes_weight f old.links.items)
        ≡ (sum_by f old.pool.free + buffers_weight f old.returns.items) + (buffers_weight f (joined (buffer_left (cores_of old.links.items)) (all_of frees)) + homes_weight f new.links.items)

  -- Turns of its own: after a want of memory the ends and the mark are all that is claimed.
  pub record CoreBecame (old new : Core U E) : Type 0 where
    pub ends : SameEnds old new
    pub marked : old.failed ≡ true → new.failed ≡ true
    pub ran : new.failed ≡ false → Ran old new
