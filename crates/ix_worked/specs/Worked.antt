-- A play of a configuration, from its settles to what its report is held against: docs/SETTLES.md.
use Rattle.std.specs.Prelude.{◌≡◌, ◌<◌, ℕ, false, List, ◌∷◌, fold, map}
use Rattle.std.specs.List.{AllByRecursion}
use Rattle.ix_base.specs.declared.id.GroupId.{GroupId}
use Rattle.ix_base.specs.declared.id.TheConstants.{FLOW_GROUPS}
use Rattle.ix_base.specs.declared.id.WireNo.{WireNo}
use Rattle.ix_mbuf.specs.Buffers.{Buffer}
use Rattle.ix_mbuf.specs.declared.name.Name.{Name}
use Rattle.ix_desk.specs.Views.{View}
use Rattle.ix_order.specs.Steppers.{tagged_by}
use Rattle.ix_stack.specs.declared.work.Work.{Work}
use Rattle.ix_appdef.specs.declared.application.Application.{Application}
use Rattle.ix_groupdef.specs.declared.env.Env.{Env}
use Rattle.ix_groupdef.specs.Env.{setting_of}
use Rattle.ix_groupdef.specs.Group.{Cycle}
use Rattle.ix_groupdef.specs.Owners.{sends_parts}
use Rattle.ix_groupdef.specs.Record.{record_of}
use Rattle.ix_conf.specs.Settings.{Settings}
use Rattle.ix_playdef.specs.Setting.{application_of, setting_of_play}
use Rattle.ix_trace.specs.declared.sheet.Sheet.{Sheet}
use Rattle.ix_core.specs.Closing.{AllFinished, units_below}
use Rattle.ix_core.specs.declared.turning.Core.{Core}
use Rattle.ix_fits.specs.Card.{entry_of}
use Rattle.ix_fits.specs.Connects.{asked_in}
use Rattle.ix_fits.specs.Cutting.{IsCutting}
use Rattle.ix_fits.specs.Fits.{OwnersFit, dues_of, left_by}
use Rattle.ix_fits.specs.Owners.{all_groups}
use Rattle.ix_plainstack.specs.Stack.{Finishes, Stack}
use Rattle.ix_settled.specs.Moments.{AreTold, IsOpened, Moment, Opening, Settled, lines_of}
use Rattle.ix_settled.specs.Renamed.{AgreesWith}
use Rattle.ix_owned.specs.Owned.{AreNotPrinted, HasDesks, TellsOwners}

-- what a play of a configuration begins with, over a capture: the connects are those that its application makes
abbrev pub opening_of : Settings → List (List ℕ) → Env Application → (WireNo → Name) → (ℕ → Stack) → (ℕ → View Stack Work) → Opening
opening_of s frames env name unit desks =
    record {
      env = env;
      cores = s.cores;
      live = s.live;
      batch = s.batch;
      frames = frames;
      name = name;
      asked = asked_in (setting_of_play s frames) s;
      unit = unit;
      desks = desks;
    }

-- the environment is that of the configuration
pub record IsEnvOf (s : Settings) (frames : List (List ℕ)) (env : Env Application) : Type 0 where
  pub setting : setting_of env ≡ setting_of_play s frames
  pub whole : sends_parts env.app ≡ sends_parts (application_of s.app s.text)

-- A play whose last settle is m, behind all entries of a report, and whose settles are those of the report.
pub record IsPlayed (s : Settings) (frames : List (List ℕ)) (r : Sheet) (env : Env Application) (name : WireNo → Name) (unit : ℕ → Stack) (desks : ℕ → View Stack Work) (m : Moment) (ms : List Moment) : Type 0 where
  pub env_is : IsEnvOf s frames env
  pub opened : IsOpened (opening_of s frames env name unit desks)
  pub settled : Settled (opening_of s frames env name unit desks) (m ∷ ms)
  pub told : AreTold (opening_of s frames env name unit desks) m
  pub agrees : AgreesWith m.done name
  pub tells : AllByRecursion (TellsOwners (opening_of s frames env name unit desks)) (m ∷ ms)
  pub kept : AreNotPrinted (opening_of s frames env name unit desks) (m ∷ ms)
  -- no tag is open in the end
  pub closed : (g : ℕ) → g < FLOW_GROUPS → fold (tagged_by g) false (map entry_of m.done) ≡ false
  pub entries : r.entries ≡ m.done
  pub settles : r.settles ≡ lines_of (m ∷ ms)

-- What the close hands out of cores with these desks are all groups in rising order, and what their stacks leave is what the groups leave of
-- these cycles.
pub record CloseLeaves (s : Settings) (frames : List (List ℕ)) (env : Env Application) (cycles : ℕ → List Cycle) (m : Moment) : Type 0 where
  pub numbers : (cores : List (Core Stack (Env Application))) (groups : List (GroupId × Stack)) (out : List Buffer) → HasDesks s.cores m.desks cores
      → AllFinished Finishes (units_below cores FLOW_GROUPS) groups out → map (λ (x : GroupId × Stack). x.0.0) groups ≡ all_groups
  pub records : (cores : List (Core Stack (Env Application))) (groups : List (GroupId × Stack)) (out : List Buffer) → HasDesks s.cores m.desks cores
      → AllFinished Finishes (units_below cores FLOW_GROUPS) groups out → map (λ (x : GroupId × Stack). record_of (setting_of env) x.1.owning.group) groups ≡ map (left_by s frames cycles) all_groups

-- The cycles of such a play: they cut what each group is to take, the settles of the report tell the owners, and they are what is left.
pub record WorksOut (s : Settings) (frames : List (List ℕ)) (r : Sheet) (env : Env Application) (m : Moment) : Type 0 where
  pub cycles : ℕ → List Cycle
  pub cut : (g : ℕ) → g < FLOW_GROUPS → IsCutting s.batch (dues_of s frames r g) (cycles g)
  pub owners : OwnersFit s frames r cycles
  pub close : CloseLeaves s frames env cycles m

abbrev pub PlaysAreWorked : Type 0
PlaysAreWorked =
    (s : Settings) (frames : List (List ℕ)) (r : Sheet) (env : Env Application) (name : WireNo → Name) (unit : ℕ → Stack) (desks : ℕ → View Stack Work) (m : Moment) (ms : List Moment)
    → IsPlayed s frames r env name unit desks m ms → WorksOut s frames r env m
