-- A connection that a core opens.
use Rattle.std.specs.Prelude.{◌≡◌, ◌<◌, ◌+◌, ℕ, Bool, true, false, not, Option, Some, None}
use Rattle.ix_base.specs.declared.id.Flow.{Flow}
use Rattle.ix_base.specs.declared.segment.Ret.{Ret}
use Rattle.ix_base.specs.declared.segment.Ret.TheVariants.{NoNeighbour, NoPort}
use Rattle.ix_hash.specs.Group.{group_of_flow}
use Rattle.ix_desk.specs.Views.{View}
use Rattle.ix_desk.specs.Groups.{changed, unit_of}
use Rattle.ix_desk.specs.Desks.{group_at, with_group}
use Rattle.ix_stack.specs.declared.work.Work.{Work}
use Rattle.ix_core.specs.declared.turning.Core.{Core}

module _ {U : Type 0} (holds : U → Flow → Bool) where
  abbrev pub is_free_in : Flow → Option U → Bool
  is_free_in flow None = false
  is_free_in flow (Some unit) = not (holds unit flow)

  -- the flow's group is here, and has no connection of the flow
  abbrev pub is_free : View U Work → Flow → Bool
  is_free v flow = is_free_in flow (unit_of (group_at v (group_of_flow flow)))

-- the flow is that of the first free port, from 49152 up to 65535
pub record FirstFree (is_free : Flow → Bool) (flow_from : ℕ → Flow) (flow : Flow) : Type 0 where
  pub step : ℕ
  pub within : step < 16384
  pub its_port : flow ≡ flow_from (49152 + step)
  pub free : is_free flow ≡ true
  pub before : (k : ℕ) → k < step → is_free (flow_from (49152 + k)) ≡ false

-- no port from 49152 up to 65535 is free
pub record NoneFree (is_free : Flow → Bool) (flow_from : ℕ → Flow) : Type 0 where
  pub none : (k : ℕ) → k < 16384 → is_free (flow_from (49152 + k)) ≡ false

-- the flow's group opens the connection and returns this, and no other group changes
pub record ConnectsAt {U E : Type 0} (connected : U → E → ℕ → ℕ → Flow → Ret → U → Type 0) (env : E) (core cookie : ℕ) (flow : Flow) (ret : Ret) (old new : View U Work) : Type 0 where
  pub unit : U
  pub left : U
  pub here : unit_of (group_at old (group_of_flow flow)) ≡ Some unit
  pub opens : connected unit env core cookie flow ret left
  pub over : new ≡ with_group old (group_of_flow flow) (changed (group_at old (group_of_flow flow)) left)

-- What a core answers to a connect: first that the address has no hardware address, then that no port is free; else the group of the first
-- free port's flow opens the connection, and answers.
module _ {U E : Type 0} (neighbour : E → ℕ → Bool) (flow_from : E → ℕ → ℕ → ℕ → Flow) (holds : U → Flow → Bool) (connected : U → E → ℕ → ℕ → Flow → Ret → U → Type 0) (env : E) (cookie ip port : ℕ) where
  pub record Opens (ret : Ret) (old new : Core U E) : Type 0 where
    pub flow : Flow
    pub first : FirstFree (is_free holds old.desks) (flow_from env ip port) flow
    pub opens : ConnectsAt connected env old.pool.home.0 cookie flow ret old.desks new.desks
    pub rest : new ≡ record old { desks = new.desks }

  pub data Connects (ret : Ret) (old new : Core U E) : Type 0 where
    no_neighbour : neighbour env ip ≡ false → ret ≡ NoNeighbour → new ≡ old → Connects ret old new
    no_port : neighbour env ip ≡ true → NoneFree (is_free holds old.desks) (flow_from env ip port) → ret ≡ NoPort → new ≡ old → Connects ret old new
    opened : neighbour env ip ≡ true → Opens ret old new → Connects ret old new
