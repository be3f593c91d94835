-- What a stack owns is what the definitions say.
use Rattle.std.specs.Prelude.{◌≡◌, ℕ, Bool, false, List, [], ◌∷◌, ◌++◌, map}
use Rattle.std.specs.List.{AllByRecursion, flat_map}
use Rattle.ix_base.specs.declared.id.CoreId.{CoreId}
use Rattle.ix_base.specs.declared.id.WireNo.{WireNo}
use Rattle.ix_base.specs.declared.id.Flow.{Flow}
use Rattle.ix_base.specs.declared.segment.Ret.{Ret}
use Rattle.ix_mbuf.specs.Buffers.{Buffer}
use Rattle.ix_mbuf.specs.declared.name.Name.{Name}
use Rattle.ix_appdef.specs.declared.application.Application.{Application}
use Rattle.ix_groupdef.specs.declared.env.Env.{Env}
use Rattle.ix_groupdef.specs.Env.{setting_of}
use Rattle.ix_groupdef.specs.Setting.{Setting}
use Rattle.ix_groupdef.specs.Group.{Cycle, Connect, run}
use Rattle.ix_groupdef.specs.Places.{accepted, RiseFrom}
use Rattle.ix_groupdef.specs.Owners.{sends_parts, owners_of}
use Rattle.ix_stack.specs.declared.work.Taken.{Taken}
use Rattle.ix_plainstack.specs.Numbers.{held_numbers, app_numbers, queue_numbers}
use Rattle.ix_stack.specs.declared.work.Work.{Work}
use Rattle.ix_plainstack.specs.Batches.{Batch, batches, cycles_of, frames_in}
use Rattle.ix_plainstack.specs.Owning.{Owning, owning_nothing, owned_by, counts_at, run_batches}
use Rattle.ix_plainstack.specs.Stack.{Stack, connect_of, Advances, Drains, Connects}

abbrev pub numbers_of : List Taken → List WireNo
numbers_of ts = map (λ (t : Taken). t.w) ts

-- Each frame lies in the buffer that a naming of all frames says.
abbrev pub AreNamed : (WireNo → Name) → List Taken → Type 0
AreNamed name ts = AllByRecursion (λ (t : Taken). t.buf.name ≡ name t.w) ts

-- A stack stands for some connects and a cutting: its group is theirs, and its buffers are those of the frames that are held, with the
-- application, and queued then, each once.
pub record StandsFor (whole : Bool) (env : Setting) (name : WireNo → Name) (asked : List Connect) (cs : List Cycle) (o : Owning) : Type 0 where
  pub group : o.group ≡ run env asked cs
  pub held : numbers_of o.buffers.held ≡ held_numbers o.group.lives
  pub app : numbers_of o.buffers.app ≡ app_numbers whole o.group.lives
  pub queue : numbers_of o.buffers.queue ≡ queue_numbers whole o.group.lives
  pub named : AreNamed name (owned_by o.buffers)

abbrev pub all_frames_in : List Batch → List Taken
all_frames_in bs = flat_map frames_in bs

-- the same of a stack, under the application of an environment
abbrev pub Stands : Env Application → (WireNo → Name) → List Connect → List Cycle → Stack → Type 0
Stands env name asked cs s = StandsFor (sends_parts env.app) (setting_of env) name asked cs s.owning

-- ## Laws
-- One that stands for a cutting stands for it with the cycles of its next batches behind it, where wire numbers rise and nothing is answered
-- before anything was told.
abbrev pub StandsOn : Type 0
StandsOn =
    (whole : Bool) (env : Setting) → env.answer false [] ≡ [] → (name : WireNo → Name) (asked : List Connect) (cs : List Cycle) (core : CoreId) (bs : List Batch) (o : Owning)
    → StandsFor whole env name asked cs o → RiseFrom 0 (accepted (cs ++ cycles_of core bs)) → AreNamed name (all_frames_in bs)
    → StandsFor whole env name asked (cs ++ cycles_of core bs) (run_batches whole env core bs o)

-- Its numbers are those of the definitions, for each home.
abbrev pub OwnersAreRight : Type 0
OwnersAreRight =
    (whole : Bool) (env : Setting) (name : WireNo → Name) (asked : List Connect) (cs : List Cycle) (o : Owning) → StandsFor whole env name asked cs o
    → (home : ℕ) → counts_at o.buffers home ≡ owners_of whole (λ w. (name w).id.home) (record { 0 = home }) o.group

-- ## The calls of a stack
abbrev pub StandsFirst : Type 0
StandsFirst = (whole : Bool) (env : Setting) (name : WireNo → Name) → StandsFor whole env name [] [] owning_nothing

-- Before all cycles a connect to a flow of this machine's address is one connect more.
abbrev pub ConnectsStand : Type 0
ConnectsStand =
    (env : Env Application) (name : WireNo → Name) (asked : List Connect) (core : ℕ) (flow : Flow) (ret : Ret) (x y : Stack) → flow.local ≡ env.local.ip
    → Connects x env core flow ret y → Stands env name asked [] x → Stands env name (asked ++ connect_of core flow ∷ []) [] y

-- A step is the cycles of its batches, for each cutting that the stack stands for before it.
abbrev pub StepsStand : Type 0
StepsStand =
    (env : Env Application) (name : WireNo → Name) (asked : List Connect) (cs : List Cycle) (core : ℕ) (items : List Work) (x y : Stack) → Advances x env core items y
    → RiseFrom 0 (accepted (cs ++ cycles_of (record { 0 = core }) (batches items))) → AreNamed name (all_frames_in (batches items))
    → Stands env name asked cs x → Stands env name asked (cs ++ cycles_of (record { 0 = core }) (batches items)) y

-- Buffers that are handed out were owned by nobody.
abbrev pub DrainsStand : Type 0
DrainsStand =
    (env : Env Application) (name : WireNo → Name) (asked : List Connect) (cs : List Cycle) (bufs : List Buffer) (x y : Stack) → Drains x bufs y → Stands env name asked cs x → Stands env name asked cs y
