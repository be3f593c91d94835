-- The plain stack, as a core sees it.
use Rattle.std.specs.Prelude.{◌≡◌, ℕ, ◌+◌, Bool, ◌==◌, if◌then◌else◌, List, [], ◌++◌, map}
use Rattle.std.specs.List.{list_any}
use Rattle.ix_base.specs.declared.id.Flow.{Flow}
use Rattle.ix_base.specs.declared.id.Owned.{Owned}
use Rattle.ix_base.specs.declared.segment.Ret.{Ret}
use Rattle.ix_base.specs.declared.segment.Ret.TheVariants as rets
use Rattle.ix_mbuf.specs.Buffers.{Buffer}
use Rattle.ix_mbuf.specs.declared.name.Name.{Name}
use Rattle.ix_appdef.specs.declared.application.Application.{Application}
use Rattle.ix_groupdef.specs.declared.env.Env.{Env}
use Rattle.ix_groupdef.specs.Env.{setting_of}
use Rattle.ix_groupdef.specs.Setting.{mac_of}
use Rattle.ix_groupdef.specs.Life.{hears}
use Rattle.ix_groupdef.specs.Group.{Group, Connect, connect, answer_to_connect}
use Rattle.ix_groupdef.specs.Owners.{sends_parts}
use Rattle.ix_stack.specs.Works.{works_weight}
use Rattle.ix_stack.specs.declared.work.Work.{Work}
use Rattle.ix_plainstack.specs.declared.stack.Stepped.{Stepped}
use Rattle.ix_plainstack.specs.Kept.{buffers_of}
use Rattle.ix_plainstack.specs.Batches.{batches, work_number}
use Rattle.ix_plainstack.specs.Owning.{Buffered, Owning, IsReached, owning_nothing, run_batches, buffered_weight, counts_at}

-- a group with its buffers, and the numbers that it has stepped, each with its core
pub record Stack : Type 0 where
  pub owning : Owning
  pub steps : List (ℕ × ℕ)

abbrev pub step_pair : Stepped → ℕ × ℕ
step_pair s = (s.w.0, s.core.0)

abbrev pub empty_stack : Stack
empty_stack = record { owning = owning_nothing; steps = [] }

abbrev pub stack_weight : (Name → ℕ) → Stack → ℕ
stack_weight f s = buffered_weight f s.owning.buffers

-- what items are called in the list of the stepped ones
abbrev pub steps_of : ℕ → List Work → List (ℕ × ℕ)
steps_of core items = map (λ (x : Work). (work_number x, core)) items

abbrev pub with_buffers : Stack → Buffered → Stack
with_buffers s b = record s { owning = record s.owning { buffers = b } }

-- ## What each call does
-- A step runs its batches, each as one cycle, and notes each item. The buffers of its frames join those of before.
pub record Advances (x : Stack) (env : Env Application) (core : ℕ) (items : List Work) (y : Stack) : Type 0 where
  pub owning : IsReached (setting_of env) x.owning.group → y.owning ≡ run_batches (sends_parts env.app) (setting_of env) (record { 0 = core }) (batches items) x.owning
  pub weight : (f : Name → ℕ) → stack_weight f y ≡ stack_weight f x + works_weight f items
  pub steps : y.steps ≡ x.steps ++ steps_of core items

-- The buffers that wait are handed out.
pub record Drains (x : Stack) (bufs : List Buffer) (y : Stack) : Type 0 where
  pub given : bufs ≡ x.owning.buffers.freed
  pub rest : y ≡ with_buffers x (record x.owning.buffers { freed = [] })

abbrev pub owners_at : Stack → ℕ → Owned
owners_at s home = counts_at s.owning.buffers home

abbrev pub holds_flow : Stack → Flow → Bool
holds_flow s flow = list_any (hears flow) s.owning.group.lives

-- the flow from a local port to a remote address and port
abbrev pub flow_to : Env Application → ℕ → ℕ → ℕ → Flow
flow_to env ip port local_port = record { remote = ip; local = env.local.ip; remote_port = port; local_port = local_port }

-- the connect that asks for a flow, on a core
abbrev pub connect_of : ℕ → Flow → Connect
connect_of core flow = record { core = record { 0 = core }; ip = flow.remote; port = flow.remote_port; local_port = flow.local_port }

-- A flow of another local address is none of this machine's: nothing is opened.
abbrev pub answer_from : Bool → Env Application → Flow → Group → Ret
answer_from ours env flow g = if ours then answer_to_connect (mac_of flow.remote env.neighbours) g.lives else rets.NoNeighbour

abbrev pub connected_from : Bool → Env Application → ℕ → Flow → Group → Group
connected_from ours env core flow g = if ours then connect (setting_of env) (connect_of core flow) g else g

-- A connect dials where there is a neighbour, and room. No buffer moves, and nothing is stepped.
pub record Connects (x : Stack) (env : Env Application) (core : ℕ) (flow : Flow) (ret : Ret) (y : Stack) : Type 0 where
  pub answer : ret ≡ answer_from (flow.local == env.local.ip) env flow x.owning.group
  pub rest : y ≡ record x { owning = record x.owning { group = connected_from (flow.local == env.local.ip) env core flow x.owning.group } }

-- All buffers are handed out, and the group stays.
pub record Finishes (x : Stack) (bufs : List Buffer) (y : Stack) : Type 0 where
  pub given : bufs ≡ buffers_of x.owning.buffers.held ++ (buffers_of x.owning.buffers.app ++ (buffers_of x.owning.buffers.queue ++ x.owning.buffers.freed))
  pub rest : y ≡ with_buffers x (record { held = []; app = []; queue = []; freed = [] })
