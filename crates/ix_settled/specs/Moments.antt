-- What is known of a play on the plain stacks at the moments at which all is idle: the settle before the first entry, and each settle among the entries.
use Rattle.std.proofs.Common.{ap}
use Rattle.std.specs.Prelude.{◌≡◌, ◌<◌, ℕ, true, false, List, [], ◌∷◌, ◌++◌, map, slice_get, is_some, Some}
use Rattle.std.specs.List.{AllByRecursion, list_any}
use Rattle.ix_base.specs.declared.id.BufId.{BufId}
use Rattle.ix_base.specs.declared.id.CoreId.{CoreId}
use Rattle.ix_base.specs.declared.id.GroupId.{GroupId}
use Rattle.ix_base.specs.declared.id.TheConstants.{FLOW_GROUPS}
use Rattle.ix_base.specs.declared.id.WireNo.{WireNo}
use Rattle.ix_mbuf.specs.Buffers.{Buffer}
use Rattle.ix_mbuf.specs.declared.name.Name.{Name}
use Rattle.ix_desk.specs.declared.unit.DeskItem.{DeskItem}
use Rattle.ix_desk.specs.declared.unit.DeskItem.TheVariants.{Work as Stepped, Tag, Cut, Start}
use Rattle.ix_desk.specs.Views.{View}
use Rattle.ix_order.specs.Steppers.{TagsAlternate}
use Rattle.ix_history.specs.Runs.{Runs}
use Rattle.ix_history.specs.Events.{Event, RingItem, Happened, at_end, for_each, for_group}
use Rattle.ix_history.specs.Items.{taken_in}
use Rattle.ix_history.specs.Join.{Played}
use Rattle.ix_deeds.specs.Going.{AreBounded}
use Rattle.ix_stack.specs.declared.work.Taken.{Taken}
use Rattle.ix_stack.specs.declared.work.Work.{Work}
use Rattle.ix_stack.specs.declared.work.Work.TheVariants as works
use Rattle.ix_appdef.specs.declared.application.Application.{Application}
use Rattle.ix_groupdef.specs.declared.env.Env.{Env}
use Rattle.ix_groupdef.specs.Group.{Connect}
use Rattle.ix_lines.specs.declared.types.EntryLine.{EntryLine}
use Rattle.ix_lines.specs.declared.types.EntryLine.TheVariants as lines
use Rattle.ix_lines.specs.declared.types.Fate.TheVariants as fates
use Rattle.ix_lines.specs.declared.types.SettleLine.{SettleLine}
use Rattle.ix_fits.specs.Card.{entry_of, opening_table}
use Rattle.ix_fits.specs.Cutting.{is_settle}
use Rattle.ix_fits.specs.Owners.{is_accepted}
use Rattle.ix_plainstack.specs.Batches.{is_frame_work, work_number}
use Rattle.ix_plainstack.specs.Stack.{Stack, Advances, Drains}
use Rattle.ix_plainstack.specs.Standing.{Stands}

-- what a stack has stepped, each item by its number, with its core
abbrev pub stack_steps : Stack → List (ℕ × ℕ)
stack_steps s = s.steps

-- an event at the desks of a core
abbrev pub StackEvent : Type 0
StackEvent = Event Stack Work (List Buffer)

abbrev pub StackHappened : Env Application → View Stack Work → StackEvent → View Stack Work → Type 0
StackHappened env = Happened is_frame_work work_number stack_steps Advances Drains env

-- ## What a play begins with
pub record Opening : Type 0 where
  -- what the connections obey, and the application
  pub env : Env Application
  -- the cores, those on which groups are at home at the opening, and the most frames of a turn
  pub cores : ℕ
  pub live : ℕ
  pub batch : ℕ
  -- the frames of the capture, and the buffer that each accepted frame lies in, by its number
  pub frames : List (List ℕ)
  pub name : WireNo → Name
  -- per group the connects before the first entry, and its stack behind them
  pub asked : ℕ → List Connect
  pub unit : ℕ → Stack
  -- per core its desks then
  pub desks : ℕ → View Stack Work

-- Each stack stands for its connects, and has stepped nothing.
pub record IsOpened (p : Opening) : Type 0 where
  pub stands : (g : ℕ) → g < FLOW_GROUPS → Stands p.env p.name (p.asked g) [] (p.unit g)
  pub steps : (g : ℕ) → g < FLOW_GROUPS → (p.unit g).steps ≡ []

-- ## Moments
pub record Moment : Type 0 where
  -- the entries that are carried out: none, or those up to a settle and with it
  pub done : List EntryLine
  -- per core what happened at its desks since the opening, and the desks now
  pub history : ℕ → List StackEvent
  pub desks : ℕ → View Stack Work
  -- what is told of the settle
  pub line : SettleLine

-- The cores have played these entries and are idle, and the tags and moves of each group alternate.
pub record AtSettle (p : Opening) (m : Moment) : Type 0 where
  pub played : Played is_frame_work work_number stack_steps Advances Drains p.env p.cores (opening_table p.live) (map entry_of m.done) p.unit p.desks m.desks m.history
  pub alternate : (g : ℕ) → g < FLOW_GROUPS → TagsAlternate g false (map entry_of m.done)

-- From one settle to the next: some entries and a settle are carried out, and the history of each core goes on.
pub record GoesOn (p : Opening) (m m' : Moment) : Type 0 where
  pub between : List EntryLine
  pub no_settle : list_any is_settle between ≡ false
  pub done : m'.done ≡ m.done ++ (between ++ lines.Settle ∷ [])
  pub more : ℕ → List StackEvent
  pub history : (c : ℕ) → c < p.cores → m'.history c ≡ m.history c ++ more c
  pub runs : (c : ℕ) → c < p.cores → Runs (StackHappened p.env) (m.desks c) (more c) (m'.desks c)
  pub bounds : (c : ℕ) → c < p.cores → AreBounded p.batch (more c)

-- at the settle before the first entry
pub record IsFirst (p : Opening) (m : Moment) : Type 0 where
  pub settle : AtSettle p m
  pub done : m.done ≡ []
  pub bounds : (c : ℕ) → c < p.cores → AreBounded p.batch (m.history c)

-- The settles of a play so far, the last one first.
abbrev pub Settled : Opening → List Moment → Type 0
Settled p [] = ⊥
Settled p (m ∷ []) = IsFirst p m
Settled p (m ∷ before ∷ ms) = AtSettle p m × GoesOn p before m × Settled p (before ∷ ms)

-- what was told of them, in order
abbrev pub lines_of : List Moment → List SettleLine
lines_of [] = []
lines_of (m ∷ ms) = lines_of ms ++ m.line ∷ []

-- ## What the cores took
-- A frame is that of its entry: the bytes of the entry's record, in the entry's buffer.
pub record IsFrameOf (frames : List (List ℕ)) (name : WireNo → Name) (done : List EntryLine) (t : Taken) : Type 0 where
  pub rec : ℕ
  pub at : ℕ
  pub group : GroupId
  pub ring : CoreId
  pub buf : BufId
  pub line : slice_get done t.w.0 ≡ Some (lines.Frame rec at group ring (fates.Buf buf))
  pub bytes : slice_get frames rec ≡ Some t.buf.bytes
  pub named : t.buf.name ≡ name t.w
  pub id : (name t.w).id ≡ buf

abbrev pub IsTold : List (List ℕ) → (WireNo → Name) → List EntryLine → Work → Type 0
IsTold frames name done (works.Frame t) = IsFrameOf frames name done t
IsTold frames name done (works.Time w t) = slice_get done w.0 ≡ Some (lines.Time t)

abbrev pub IsItemTold : List (List ℕ) → (WireNo → Name) → List EntryLine → DeskItem Work → Type 0
IsItemTold frames name done (Stepped x) = IsTold frames name done x
IsItemTold frames name done Tag = Unit {0}
IsItemTold frames name done (Cut to) = Unit {0}
IsItemTold frames name done (Start k) = Unit {0}

abbrev pub IsRingItemTold : List (List ℕ) → (WireNo → Name) → List EntryLine → RingItem Work → Type 0
IsRingItemTold frames name done (for_group g it) = IsItemTold frames name done it
IsRingItemTold frames name done (for_each x) = IsTold frames name done x
IsRingItemTold frames name done at_end = Unit {0}

-- an accepted frame has a record of the capture
abbrev pub HasRecord : List (List ℕ) → EntryLine → Type 0
HasRecord frames (lines.Frame rec at group ring fate) = is_accepted fate ≡ true → is_some (slice_get frames rec) ≡ true
HasRecord frames (lines.Time t) = Unit {0}
HasRecord frames (lines.Tag group) = Unit {0}
HasRecord frames (lines.Move group to) = Unit {0}
HasRecord frames lines.Settle = Unit {0}

-- All items that the cores took are those of the entries.
pub record AreTold (p : Opening) (m : Moment) : Type 0 where
  pub records : AllByRecursion (HasRecord p.frames) m.done
  pub items : (c : ℕ) → c < p.cores → AllByRecursion (IsRingItemTold p.frames p.name m.done) (taken_in (m.history c))

-- Handing out buffers steps nothing.
pub drains-steps : (x : Stack) (bufs : List Buffer) (y : Stack) → Drains x bufs y → y.steps ≡ x.steps
drains-steps x bufs y d = ap (λ (s : Stack). s.steps) d.rest
