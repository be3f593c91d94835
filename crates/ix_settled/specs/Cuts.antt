-- How the stacks of a play cut the entries of their groups into cycles: docs/SETTLES.md.
use Rattle.std.specs.Prelude.{◌≡◌, ◌<◌, ℕ, false, List, [], ◌∷◌, ◌++◌, filter, fold, is_some, map, Bool, Some, None}
use Rattle.std.specs.List.{AllByRecursion}
use Rattle.ix_base.specs.declared.id.TheConstants.{FLOW_GROUPS}
use Rattle.ix_desk.specs.Desks.{group_at}
use Rattle.ix_desk.specs.Pieces.{ready}
use Rattle.ix_desk.specs.Views.{Piece}
use Rattle.ix_order.specs.Pieces.{core_in}
use Rattle.ix_order.specs.Steppers.{tagged_by}
use Rattle.ix_order.specs.Wire.{moves}
use Rattle.ix_stack.specs.declared.work.Taken.{Taken}
use Rattle.ix_stack.specs.declared.work.Work.{Work}
use Rattle.ix_stack.specs.declared.work.Work.TheVariants as works
use Rattle.ix_groupdef.specs.Env.{setting_of}
use Rattle.ix_groupdef.specs.Group.{Cycle, run}
use Rattle.ix_groupdef.specs.Owners.{sends_parts}
use Rattle.ix_groupdef.specs.Record.{record_of}
use Rattle.ix_lines.specs.declared.types.EntryLine.{EntryLine}
use Rattle.ix_lines.specs.declared.types.EntryLine.TheVariants as lines
use Rattle.ix_reta.specs.Table.{opening_core}
use Rattle.ix_fits.specs.Card.{entry_of, opening_table}
use Rattle.ix_fits.specs.Cutting.{Due, IsCutting, dues, reach}
use Rattle.ix_fits.specs.Owners.{Play, below, waiting}
use Rattle.ix_plainstack.specs.Stack.{Stack}
use Rattle.ix_plainstack.specs.Standing.{AreNamed, Stands, numbers_of}
use Rattle.ix_settled.specs.Moments.{AreTold, IsOpened, Moment, Opening, Settled}

-- the dues of a group that some core steps: all but those behind an open tag
abbrev pub has_stepper : Due → Bool
has_stepper d = is_some d.core

abbrev pub stepped_dues : List (List ℕ) → ℕ → ℕ → List EntryLine → List Due
stepped_dues frames g opening done = filter has_stepper (dues frames g opening done)

-- the first of some cycles of a group: those that are behind it once these entries are carried out
abbrev pub cycles_at : List Cycle → ℕ → List EntryLine → List Cycle
cycles_at cs g done = below (reach g done) cs

-- the play of an opening, with these entries in these cycles
abbrev pub play_of : Opening → List EntryLine → (ℕ → List Cycle) → Play
play_of p entries cycles =
    record {
      env = setting_of p.env;
      whole = sends_parts p.env.app;
      entries = entries;
      asked = p.asked;
      cycles = cycles;
    }

-- the frames among some items
abbrev pub frames_among : List Work → List Taken
frames_among [] = []
frames_among (works.Frame t ∷ items) = t ∷ frames_among items
frames_among (works.Time w now ∷ items) = frames_among items

-- At a settle the stack of a group is on the core of the group's last tenure alone. It stands for the first of these cycles, and they cut what
-- the group has stepped of the entries. Nothing is to be stepped, and the frames that wait are those behind an open tag.
pub record StandsAt (p : Opening) (cs : List Cycle) (g : ℕ) (m : Moment) : Type 0 where
  pub core : ℕ
  pub place : core ≡ core_in g (moves g (map entry_of m.done)) (opening_table p.live) (map entry_of m.done)
  pub within : core < p.cores
  pub piece : Piece Stack Work
  pub is : (group_at (m.desks core) g).current ≡ Some piece
  pub unit : Stack
  pub there : piece.unit ≡ Some unit
  pub stands : Stands p.env p.name (p.asked g) (cycles_at cs g m.done) unit
  pub cut : IsCutting p.batch (stepped_dues p.frames g (opening_core p.live g).0 m.done) (cycles_at cs g m.done)
  pub ready : ready piece ≡ []
  pub waits : waiting m.done g ≡ numbers_of (frames_among piece.behind)
  pub named : AreNamed p.name (frames_among piece.behind)
  -- it is the same before the settle itself
  pub still : (done : List EntryLine) → m.done ≡ done ++ lines.Settle ∷ [] → (cycles_at cs g done ≡ cycles_at cs g m.done) × (waiting done g ≡ waiting m.done g)
  -- the group is nowhere else
  pub no_cut : (c : ℕ) → c < p.cores → (group_at (m.desks c) g).cut ≡ []
  pub no_early : (c : ℕ) → c < p.cores → (group_at (m.desks c) g).early ≡ []
  pub no_current : (c : ℕ) → c < p.cores → (c ≡ core → ⊥) → (group_at (m.desks c) g).current ≡ None

-- One cutting of a group serves all settles.
pub record IsCut (p : Opening) (cs : List Cycle) (m : Moment) (ms : List Moment) (g : ℕ) : Type 0 where
  pub each : AllByRecursion (StandsAt p cs g) (m ∷ ms)
  -- it ends with the last settle
  pub last : cycles_at cs g m.done ≡ cs
  -- where no tag of the group is open then, it cuts all that the group is to take
  pub all : fold (tagged_by g) false (map entry_of m.done) ≡ false → IsCutting p.batch (dues p.frames g (opening_core p.live g).0 m.done) cs

pub record AreCut (p : Opening) (m : Moment) (ms : List Moment) : Type 0 where
  pub cycles : ℕ → List Cycle
  pub groups : (g : ℕ) → g < FLOW_GROUPS → IsCut p (cycles g) m ms g

-- Whatever the cores did between the settles of a play, there is a cutting of each group that its stack stands for, at each settle.
abbrev pub PlaysAreCut : Type 0
PlaysAreCut = (p : Opening) (m : Moment) (ms : List Moment) → IsOpened p → Settled p (m ∷ ms) → AreTold p m → AreCut p m ms

-- What the stack of a group leaves is what the group leaves of these cycles.
abbrev pub GroupsLeave : Type 0
GroupsLeave =
    (p : Opening) (cs : List Cycle) (m : Moment) (g : ℕ) (s : StandsAt p cs g m) → cycles_at cs g m.done ≡ cs
    → record_of (setting_of p.env) s.unit.owning.group ≡ record_of (setting_of p.env) (run (setting_of p.env) (p.asked g) cs)
