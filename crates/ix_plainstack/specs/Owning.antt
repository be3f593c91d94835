-- A group with the buffers of its frames.
use Rattle.std.specs.Prelude.{◌≡◌, ℕ, ◌+◌, Bool, ◌==◌, List, [], ◌∷◌, ◌++◌, count_by}
use Rattle.ix_base.specs.declared.id.CoreId.{CoreId}
use Rattle.ix_base.specs.declared.id.Owned.{Owned}
use Rattle.ix_base.specs.declared.id.WireNo.{WireNo}
use Rattle.ix_mbuf.specs.Buffers.{Buffer, buffers_weight}
use Rattle.ix_mbuf.specs.declared.name.Name.{Name}
use Rattle.ix_groupdef.specs.Setting.{Setting}
use Rattle.ix_groupdef.specs.Life.{Life}
use Rattle.ix_groupdef.specs.Group.{Group, Connect, Cycle, run_cycle, run}
use Rattle.ix_groupdef.specs.Group as groups
use Rattle.ix_stack.specs.declared.work.Taken.{Taken}
use Rattle.ix_plainstack.specs.Numbers.{held_numbers, app_numbers, queue_numbers}
use Rattle.ix_plainstack.specs.Kept.{kept_of, left_of, buffers_of, frames_weight}
use Rattle.ix_stack.specs.declared.work.Work.{Work}
use Rattle.ix_plainstack.specs.Batches.{Batch, batches_behind, cycle_of, frames_in}

-- The frames whose buffers a group owns: segments held out of order, told parts that the application has, and those that are queued. The
-- freed buffers wait to be handed out.
pub record Buffered : Type 0 where
  pub held : List Taken
  pub app : List Taken
  pub queue : List Taken
  pub freed : List Buffer

abbrev pub no_buffers : Buffered
no_buffers = record { held = []; app = []; queue = []; freed = [] }

-- all frames whose buffers it owns
abbrev pub owned_by : Buffered → List Taken
owned_by b = b.held ++ (b.app ++ b.queue)

-- what may be owned after a cycle: what was owned before it, and the frames that came
abbrev pub found_by : Buffered → List Taken → List Taken
found_by b came = b.held ++ (b.app ++ (b.queue ++ came))

-- Of what was found those with these numbers are kept, and the buffers of the others are freed.
abbrev pub settled_by : List WireNo → List WireNo → List WireNo → List Taken → List Buffer → Buffered
settled_by held app queue found freed =
    let behind_held : List Taken = left_of held found in
    let behind_app : List Taken = left_of app behind_held in
    record {
      held = kept_of held found;
      app = kept_of app behind_held;
      queue = kept_of queue behind_app;
      freed = freed ++ buffers_of (left_of queue behind_app);
    }

abbrev pub settled : Bool → List Life → List Taken → Buffered → Buffered
settled whole ls came b =
    settled_by (held_numbers ls) (app_numbers whole ls) (queue_numbers whole ls) (found_by b came) b.freed

-- the weights of all its buffers, added up
abbrev pub buffered_weight : (Name → ℕ) → Buffered → ℕ
buffered_weight f b = frames_weight f b.held + (frames_weight f b.app + (frames_weight f b.queue + buffers_weight f b.freed))

-- how many of these frames lie in buffers of this home
abbrev pub is_at_home : ℕ → Taken → Bool
is_at_home home t = t.buf.name.id.home.0 == home

abbrev pub counts_at : Buffered → ℕ → Owned
counts_at b home =
    record {
      held = count_by (is_at_home home) b.held;
      app = count_by (is_at_home home) b.app;
      queue = count_by (is_at_home home) b.queue;
    }

-- ## With its group
pub record Owning : Type 0 where
  pub group : Group
  pub buffers : Buffered

abbrev pub owning_nothing : Owning
owning_nothing = record { group = groups.empty; buffers = no_buffers }

-- A cycle is run, and the group as it is then keeps the buffers that it owns.
unfoldable pub run_batch : Bool → Setting → CoreId → Batch → Owning → Owning
run_batch whole env core b o =
    let g : Group = run_cycle env (cycle_of core b) o.group in
    record { group = g; buffers = settled whole g.lives (frames_in b) o.buffers }

abbrev pub run_batches : Bool → Setting → CoreId → List Batch → Owning → Owning
run_batches whole env core [] o = o
run_batches whole env core (b ∷ bs) o = run_batches whole env core bs (run_batch whole env core b o)

-- Some connects and some cutting lead to this group.
pub record IsReached (env : Setting) (g : Group) : Type 0 where
  pub asked : List Connect
  pub cs : List Cycle
  pub is : g ≡ run env asked cs

-- Behind one more item, with the frames that wait then, the rest of the items leads where it led with that item before it.
pub record GoesOn (whole : Bool) (env : Setting) (core : CoreId) (item : Work) (frames : List Taken) (x : Owning) (frames' : List Taken) (y : Owning) : Type 0 where
  pub reached : IsReached env y.group
  pub same : (rest : List Work) → run_batches whole env core (batches_behind frames' rest) y ≡ run_batches whole env core (batches_behind frames (item ∷ rest)) x
